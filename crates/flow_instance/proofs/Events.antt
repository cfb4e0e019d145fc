-- Enabled events, and worlds at their start.
use Rattle.std.proofs.Common.{◌≡◌, ◌<◌, ◌&&◌, ◌+◌, ℕ, true, Option, Some, None, [], ◌∷◌, length, slice_get, refl, ap, sym, ◌∙◌, arith, length-append}
use Rattle.std.proofs.lemmas.Bool.{eqb-true, and_parts, ltb-true}
use Rattle.std.specs.Prelude.{nat_lt}
use Rattle.plan_trees.specs.Distinct.{AreDifferent}
use Rattle.plan_trees.specs.Physicals.{PhysicalData}
use Rattle.plan_trees.specs.Plans.{has, nodes, subtree_of}
use Rattle.flow_instance.specs.declared.notes.PipeId.{PipeId}
use Rattle.flow_instance.specs.declared.notes.Event.{Event}
use Rattle.flow_instance.specs.declared.notes.Event.TheVariants as events
use Rattle.flow_instance.specs.declared.notes.Want.{Want}
use Rattle.flow_instance.specs.declared.notes.Want.TheVariants.{Take, Put, End, Done}
use Rattle.flow_instance.specs.Instances.{want, port_ended}
use Rattle.flow_instance.specs.Local.{IsReceiver, IsWaiting}
use Rattle.flow_instance.specs.Spots.{Port, Setting, ports_of, spot}
use Rattle.flow_instance.specs.Steps.{next_note}
use Rattle.flow_instance.specs.Events.{IsStart, KeepsDepth, Steps, TakesBy, no_history, noted}
use Rattle.flow_instance.specs.Worlds.{World, History, Stands, can_take, does_want, enabled, reader_of, lists_at}
use Rattle.flow_instance.proofs.EndMarksAndWants.{put_to}
use Rattle.flow_instance.proofs.LocalAfterPuts.{started_local}
use Rattle.flow_instance.proofs.StandsAfterEvents.{end_stands, local_same, put_stands, take_stands}

-- ---- what is wanted

pub wants_put : (x : Want) (to : ℕ) → does_want x (Put to) ≡ true → x ≡ Put to
wants_put (Take p) to e = absurd (cc)
wants_put (Put p) to e = ap Put (eqb-true p to e)
wants_put End to e = absurd (cc)
wants_put Done to e = absurd (cc)

pub wants_take : (x : Want) (port : ℕ) → does_want x (Take port) ≡ true → x ≡ Take port
wants_take (Take p) port e = ap Take (eqb-true p port e)
wants_take (Put p) port e = absurd (cc)
wants_take End port e = absurd (cc)
wants_take Done port e = absurd (cc)

pub wants_end : (x : Want) → does_want x End ≡ true → x ≡ End
wants_end (Take p) e = absurd (cc)
wants_end (Put p) e = absurd (cc)
wants_end End e = refl
wants_end Done e = absurd (cc)

-- ---- consequences of an enabled event

pub record MayPut (p : PhysicalData) (depth : ℕ) (w : World) (pipe : PipeId) : Type 0 where
  pub there : has pipe.edge p.tree ≡ true
  pub from_below : pipe.from < p.workers
  pub wanted : want (w.instance pipe.edge pipe.from) ≡ Put pipe.to
  pub room : length (w.queue pipe.edge pipe.from pipe.to) < depth

pub may_put : (p : PhysicalData) (depth : ℕ) (w : World) (pipe : PipeId) → enabled p depth w (events.Put pipe) ≡ true → MayPut p depth w pipe
may_put p depth w pipe e =
    let parts = and_parts (has pipe.edge p.tree && nat_lt pipe.from p.workers) _ e in
    let place = and_parts (has pipe.edge p.tree) (nat_lt pipe.from p.workers) parts.0 in
    let can = and_parts (does_want (want (w.instance pipe.edge pipe.from)) (Put pipe.to)) (nat_lt (length (w.queue pipe.edge pipe.from pipe.to)) depth) parts.1 in
    record {
      there = place.0;
      from_below = ltb-true pipe.from p.workers place.1;
      wanted = wants_put (want (w.instance pipe.edge pipe.from)) pipe.to can.0;
      room = ltb-true (length (w.queue pipe.edge pipe.from pipe.to)) depth can.1;
    }

pub record MayTake (p : PhysicalData) (w : World) (pipe : PipeId) : Type 0 where
  pub from_below : pipe.from < p.workers
  pub to_below : pipe.to < p.workers
  pub can : can_take w pipe (reader_of pipe.edge p.tree) ≡ true

pub may_take : (p : PhysicalData) (depth : ℕ) (w : World) (pipe : PipeId) → enabled p depth w (events.Take pipe) ≡ true → MayTake p w pipe
may_take p depth w pipe e =
    let parts = and_parts (nat_lt pipe.from p.workers && nat_lt pipe.to p.workers) _ e in
    let below = and_parts (nat_lt pipe.from p.workers) (nat_lt pipe.to p.workers) parts.0 in
    record { from_below = ltb-true pipe.from p.workers below.0; to_below = ltb-true pipe.to p.workers below.1; can = parts.1 }

pub record MayEnd (p : PhysicalData) (w : World) (at worker : ℕ) : Type 0 where
  pub there : has at p.tree ≡ true
  pub below : worker < p.workers
  pub wanted : want (w.instance at worker) ≡ End

pub may_end : (p : PhysicalData) (depth : ℕ) (w : World) (at worker : ℕ) → enabled p depth w (events.End at worker) ≡ true → MayEnd p w at worker
may_end p depth w at worker e =
    let parts = and_parts (has at p.tree && nat_lt worker p.workers) _ e in
    let place = and_parts (has at p.tree) (nat_lt worker p.workers) parts.0 in
    record { there = place.0; below = ltb-true worker p.workers place.1; wanted = wants_end (want (w.instance at worker)) parts.1 }

-- ---- an event preserves `Stands`

take_by : (g : Setting) (w v : World) (h : History) (p : PipeId) (o : Option (ℕ × ℕ)) → AreDifferent (nodes g.physical.tree) → Stands g w h → reader_of p.edge g.physical.tree ≡ o
    → p.from < g.physical.workers → p.to < g.physical.workers → can_take w p o ≡ true → TakesBy g w p o v → Stands g v (noted w (events.Take p) h)
take_by g w v h p None d st r from to can step = absurd (cc)
take_by g w v h p (Some x) d st r from to can step =
    let parts = and_parts (does_want (want (w.instance x.0 p.to)) (Take x.1)) (nat_lt 0 (length (w.queue p.edge p.from p.to))) can in
    take_stands g w v h p x.0 x.1 d st r from to (wants_take (want (w.instance x.0 p.to)) x.1 parts.0) (ltb-true 0 (length (w.queue p.edge p.from p.to)) parts.1) step

pub receiver_below : (g : Setting) (w : World) (h : History) (p : PipeId) → Stands g w h → has p.edge g.physical.tree ≡ true → p.from < g.physical.workers → want (w.instance p.edge p.from) ≡ Put p.to → p.to < g.physical.workers
receiver_below g w h p st there below wanted =
    let i = w.instance p.edge p.from in
    let l = st.instances p.edge p.from there below in
    let s = spot g (subtree_of p.edge g.physical.tree) in
    let receiver : IsReceiver s p.from p.to = put_to (IsReceiver s p.from) (IsWaiting s p.from) i.waiting i.marks (port_ended i 0) (port_ended i 1) i.finished p.to (λ x q. q.0) l.waiting_notes l.marks_wait wanted in
    receiver.0

pub step_stands : (g : Setting) (depth : ℕ) (w v : World) (h : History) (e : Event) → AreDifferent (nodes g.physical.tree) → Stands g w h → enabled g.physical depth w e ≡ true → Steps g w e v → Stands g v (noted w e h)
step_stands g depth w v h (events.Put p) d st e step =
    let m = may_put g.physical depth w p e in
    put_stands g w v h p st m.wanted m.from_below (receiver_below g w h p st m.there m.from_below m.wanted) step
step_stands g depth w v h (events.Take p) d st e step =
    let m = may_take g.physical depth w p e in
    take_by g w v h p (reader_of p.edge g.physical.tree) d st refl m.from_below m.to_below m.can step
step_stands g depth w v h (events.End at k) d st e step = end_stands g w v h at k st (may_end g.physical depth w at k e).wanted step

pub step_depth : (g : Setting) (depth : ℕ) (w v : World) (e : Event) → enabled g.physical depth w e ≡ true → Steps g w e v → KeepsDepth depth w e v
step_depth g depth w v (events.Put p) e step =
    let less = (may_put g.physical depth w p e).room in
    let long : length (v.queue p.edge p.from p.to) ≡ length (w.queue p.edge p.from p.to) + 1 =
    ap length step.queue.here ∙ length-append (w.queue p.edge p.from p.to) (next_note (w.instance p.edge p.from).waiting ∷ []) in
    omega arith
step_depth g depth w v (events.Take p) e step = tt
step_depth g depth w v (events.End at k) e step = tt

-- ---- the start

nothing_taken : (o : Option Port) (f k : ℕ) → lists_at no_history.taken o f k ≡ []
nothing_taken None f k = refl
nothing_taken (Some q) f k = refl

pub start_stands : (g : Setting) (w : World) → IsStart g w → Stands g w no_history
start_stands g w s = record {
  pipe = λ a b c. sym (s.queue a b c);
  outside = λ a b c o. refl;
  instances = λ at k there below.
      let t = subtree_of at g.physical.tree in
      local_same (spot g t) k (w.instance at k) (w.instance at k) (λ port from. []) (λ port from. lists_at no_history.taken (slice_get (ports_of g.physical t) port) from k) (λ to. []) (λ to. [])
      (started_local (spot g t) k (w.instance at k) (s.instances at k there below)) refl (λ port from. nothing_taken (slice_get (ports_of g.physical t) port) from k) (λ to. refl);
}
