-- The attempts of a worker that is ready, and their results.
use Rattle.std.proofs.Common.{◌≡◌, ◌≢◌, ◌<◌, ◌≤◌, inl, inr, ◌||◌, ◌&&◌, ℕ, zero, suc, Bool, true, false, Option, Some, None, List, [], ◌∷◌, get_or, length, set, slice_get, refl, ap, sym, ◌∙◌, subst, arith}
use Rattle.std.specs.List.{AllByRecursion}
use Rattle.std.specs.Prelude.{nat_lt, not, Result, Ok, Err, IfOk, OnOk}
use Rattle.flow_run.specs.declared.attempts.Attempt.{Attempt}
use Rattle.flow_run.specs.declared.attempts.Attempt.TheVariants.{Progress, Blocked, Exhausted}
use Rattle.std.proofs.lemmas.Bool.{and_from, and_parts, cases_lt, lt-ltb, ltb-true}
use Rattle.std.proofs.lemmas.List.{get_or-set_other, get_or-set_same}
use Rattle.batch_channel.specs.Ends.{APipe}
use Rattle.pact_operators.specs.Allowed.{Bag}
use Rattle.plan_trees.specs.Physicals.{ship_at}
use Rattle.plan_trees.specs.Plans.{root_of, subtree_of}
use Rattle.plan_trees.specs.Sending.{has_out}
use Rattle.plan_trees.proofs.NumbersBelow.{all_below_from}
use Rattle.plan_trees.proofs.SubtreesOfPlans.{root_of-subtree}
use Rattle.flow_instance.specs.declared.notes.Note.{Note}
use Rattle.flow_instance.specs.declared.notes.Want.{Want}
use Rattle.flow_instance.specs.declared.notes.Want.TheVariants.{Take, Put, End, Done}
use Rattle.flow_instance.specs.Instances.{Instance, ended_at, port_ended, want}
use Rattle.flow_instance.specs.Local.{IsLocal, IsReceiver, IsWaiting}
use Rattle.flow_instance.specs.Notes.{IsNote, has_end}
use Rattle.flow_instance.specs.Spots.{Port, Setting, Spot, is_edge, ports_of, spot}
use Rattle.flow_instance.specs.Steps.{finish, next_note}
use Rattle.flow_instance.specs.Worlds.{lists_at}
use Rattle.flow_instance.proofs.EndMarksAndWants.{put_to}
use Rattle.flow_instance.proofs.LocalAfterTakes.{IsTaking, taking_by}
use Rattle.flow_core.specs.Worlds.{no_instance}
use Rattle.flow_run.specs.Tables.{cell, cell_in}
use Rattle.flow_run.specs.Ends.{ArePuts, AreTakes, EndTable, IsPipeIf, PipeTables, goes_along, notes_in}
use Rattle.flow_run.specs.WorkerStates.{AllHeld, Happens, Held, HeldAt, IsReady, IsReadyFor, Rests, StaysReady, TakesAt, Works, worker_state}
use Rattle.flow_run.specs.Tries.{HasNotPutTo, HasPutTo, HasStepped, MayTake, AfterAttempt}
use Rattle.flow_run.specs.Workers.{HasWorked}
use Rattle.flow_run.specs.declared.workers.Worker.{Worker}
use Rattle.flow_run.proofs.WorkerStateLaws.{works_kept}

next_fits : (s : Spot) (worker : ℕ) (waiting : List (ℕ × Bag)) → AllByRecursion (IsWaiting s worker) waiting → IsNote s.fields (next_note waiting)
next_fits s worker [] h = tt
next_fits s worker (w ∷ waiting) h = (h.0.1, h.0.2)

-- a port that doesn't exist has ended
sent_by : (x y : Bool) → (not x || y) ≡ false → x ≡ true
sent_by true y e = refl
sent_by false y e = absurd (cc)

past_ports : (ports : List Port) (port : ℕ) → length ports ≤ port → slice_get ports port ≡ None
past_ports [] port h = refl
past_ports (p ∷ ports) zero h = absurd (omega (arith, h))
past_ports (p ∷ ports) (suc port) h = past_ports ports port (omega (arith, h))

ended_without : (i : Instance) (port : ℕ) → IsTaking i.waiting i.marks (port_ended i 0) (port_ended i 1) port → port_ended i port ≡ false
ended_without i port t = elim t.which as (λ _. port_ended i port ≡ false) [ inl x ↦ ap (port_ended i) x.0 ∙ x.1 | inr x ↦ ap (port_ended i) x.0 ∙ x.2 ]

pipe_sender : (b : Bool) (o : Option APipe) (p : APipe) → IsPipeIf b o → o ≡ Some p → b ≡ true
pipe_sender true o p h e = refl
pipe_sender false o p h e = absurd (let bad : None ≡ Some p = sym h ∙ e in cc)

map_attempt : {A B C D : Type 0} (t : Attempt) → (A → B) → (C → D) → AfterAttempt t A C → AfterAttempt t B D
map_attempt Progress f g x = f x
map_attempt Blocked f g x = g x
map_attempt Exhausted f g x = g x

module _ (g : Setting) (fields worker : ℕ) (pipes : PipeTables) (instances : List Instance) (puts takes : EndTable) (r : IsReadyFor g fields worker pipes instances puts takes) (at : ℕ) (less : at < length instances)
    (i : Instance) (at_is : i ≡ get_or instances at no_instance) where
  abbrev its_spot : Spot
  its_spot = spot g (subtree_of at g.physical.tree)

  abbrev its_lists : ℕ → ℕ → List Note
  its_lists port from = lists_at (λ edge from to. notes_in (cell takes edge from)) (slice_get (ports_of g.physical (subtree_of at g.physical.tree)) port) from worker

  abbrev its_puts : ℕ → List Note
  its_puts to = notes_in (cell puts at to)

  follows : IsLocal its_spot worker i its_lists its_puts
  follows = subst (λ (x : Instance). IsLocal its_spot worker x its_lists its_puts) (sym at_is) (r.local at (r.only at less))

  pub put_fits : IsNote fields (next_note i.waiting)
  put_fits = subst (λ (n : ℕ). IsNote n (next_note i.waiting)) r.fields_are (next_fits its_spot worker i.waiting follows.waiting_notes)

  pub put_pipe : (to : ℕ) → want i ≡ Put to → IsPipeIf true (cell_in pipes at worker to)
  put_pipe to wanted =
      let l = follows in
      let receiver : IsReceiver its_spot worker to = put_to (IsReceiver its_spot worker) (IsWaiting its_spot worker) i.waiting i.marks (port_ended i 0) (port_ended i 1) i.finished to (λ x q. q.0) l.waiting_notes l.marks_wait wanted in
      let root : root_of (subtree_of at g.physical.tree) ≡ at = root_of-subtree at g.physical.tree (r.only at less) in
      let out : has_out (ship_at g.physical at) worker to ≡ true = ap (λ (n : ℕ). has_out (ship_at g.physical n) worker to) (sym root) ∙ receiver.1 in
      let goes : goes_along g.physical at worker to ≡ true = and_from (nat_lt worker g.physical.workers && nat_lt to g.physical.workers) (has_out (ship_at g.physical at) worker to)
      (and_from (nat_lt worker g.physical.workers) (nat_lt to g.physical.workers) (lt-ltb worker g.physical.workers r.below) (lt-ltb to g.physical.workers receiver.0)) out in
      subst (λ (b : Bool). IsPipeIf b (cell_in pipes at worker to)) goes (r.pipes_are.each at worker to)

  pub may_take : (port : ℕ) → want i ≡ Take port → MayTake fields worker pipes i port
  may_take port wanted =
      let l = follows in
      let taking = taking_by i.waiting i.marks (port_ended i 0) (port_ended i 1) i.finished port wanted in
      let edge_of : (from : ℕ) → from < i.part.workers → ended_at i port from ≡ false → is_edge (slice_get i.part.ports port) from worker ≡ true = λ from below unended.
      ap (λ ports. is_edge (slice_get ports port) from worker) l.part.ports ∙ sent_by _ _ (sym (l.ended port from (subst (λ (n : ℕ). from < n) l.part.workers below)) ∙ unended) in
      let there : port < length i.part.ports = elim (cases_lt port (length i.part.ports)) as (λ _. port < length i.part.ports) [
        | inl good ↦ good
        | inr past ↦
            let none : slice_get i.part.ports port ≡ None = past_ports i.part.ports port past in
            let all : port_ended i port ≡ true = all_below_from i.part.workers (ended_at i port) (λ k below.
            l.ended port k (subst (λ (n : ℕ). k < n) l.part.workers below) ∙ ap (λ ports. not (is_edge (slice_get ports port) k worker) || has_end (its_lists port k)) (sym l.part.ports)
            ∙ ap (λ (o : Option Port). not (is_edge o k worker) || has_end (its_lists port k)) none) in
            absurd (let bad : true ≡ false = sym all ∙ ended_without i port taking in cc)
      ] in
      record {
        worker_is = l.part.worker;
        there = there;
        fields_are = l.part.fields ∙ r.fields_are;
        edges = edge_of;
        below = λ edge from p is.
            let goes = pipe_sender (goes_along g.physical edge from worker) (cell_in pipes edge from worker) p (r.pipes_are.each edge from worker) is in
            let both = and_parts (nat_lt from g.physical.workers && nat_lt worker g.physical.workers) (has_out (ship_at g.physical edge) from worker) goes in
            let first = and_parts (nat_lt from g.physical.workers) (nat_lt worker g.physical.workers) both.0 in
            subst (λ (n : ℕ). from < n) (sym l.part.workers) (ltb-true from g.physical.workers first.0);
      }

  -- ---- results of attempts

  now_at : (j : Instance) → get_or (set instances at j) at no_instance ≡ j
  now_at j = get_or-set_same instances at j no_instance less

  others_stay : (j : Instance) (k : ℕ) → k ≢ at → get_or (set instances at j) k no_instance ≡ get_or instances k no_instance
  others_stay j k other = get_or-set_other instances at k j no_instance other

  pub put_event : (to : ℕ) (j : Instance) (puts' : EndTable) → want i ≡ Put to → HasPutTo i at to puts j puts' → Happens worker (worker_state instances puts takes) at (worker_state (set instances at j) puts' takes)
  put_event to j puts' wanted h = subst (λ (x : Instance). want x ≡ Put to → HasPutTo x at to puts j puts' → Happens worker (worker_state instances puts takes) at (worker_state (set instances at j) puts' takes)) (sym at_is)
      (λ wanted h. inl (record { to = to; wanted = wanted; instance = now_at j ∙ h.instance; others = others_stay j; put = h.put; taken = λ edge from. refl })) wanted h

  pub put_rest : (to : ℕ) (j : Instance) (puts' : EndTable) → want i ≡ Put to → HasNotPutTo pipes worker i at to puts j puts'
      → Rests (worker_state instances puts takes) at (worker_state (set instances at j) puts' takes) × HeldAt pipes worker (worker_state (set instances at j) puts' takes) at
  put_rest to j puts' wanted h = (
    record {
      receiver = h.receiver;
      instance = now_at j ∙ h.instance ∙ ap (λ (x : Instance). record x { receiver = h.receiver }) at_is;
      others = others_stay j;
      put = h.put;
      taken = λ edge from. refl;
    },
    subst (λ (w : Want). Held pipes worker (worker_state (set instances at j) puts' takes) at w) (sym (ap want (now_at j ∙ h.instance) ∙ wanted))
        (h.its_pipe, h.pipe_is, subst (λ (ns : List Note). h.its_pipe.depth ≤ length ns) (sym (h.put at to)) h.full),
  )

  pub take_event : (port : ℕ) (j : Instance) (takes' : EndTable) → want i ≡ Take port → TakesAt i worker port (λ a b. notes_in (cell takes a b)) j (λ a b. notes_in (cell takes' a b))
      → Happens worker (worker_state instances puts takes) at (worker_state (set instances at j) puts takes')
  take_event port j takes' wanted h =
      subst (λ (x : Instance). want x ≡ Take port → TakesAt x worker port (λ a b. notes_in (cell takes a b)) j (λ a b. notes_in (cell takes' a b)) → Happens worker (worker_state instances puts takes) at (worker_state (set instances at j) puts takes')) (sym at_is)
      (λ wanted h. inr (inl (record {
        port = port;
        wanted = wanted;
        took = subst (λ (x : Instance). TakesAt (get_or instances at no_instance) worker port (λ a b. notes_in (cell takes a b)) x (λ a b. notes_in (cell takes' a b))) (sym (now_at j)) h;
        others = others_stay j;
        put = λ edge to. refl;
      }))) wanted h

  -- the instance is the same
  rest_same : (j : Instance) (takes' : EndTable) → j ≡ i → ((a b : ℕ) → notes_in (cell takes' a b) ≡ notes_in (cell takes a b)) → Rests (worker_state instances puts takes) at (worker_state (set instances at j) puts takes')
  rest_same j takes' same taken = record {
    receiver = i.receiver;
    instance = now_at j ∙ same ∙ ap (λ (x : Instance). record x { receiver = i.receiver }) at_is;
    others = others_stay j;
    put = λ edge to. refl;
    taken = taken;
  }

  pub take_rest : (port : ℕ) (j : Instance) (takes' : EndTable) → want i ≡ Take port → (j ≡ i) × ((a b : ℕ) → notes_in (cell takes' a b) ≡ notes_in (cell takes a b))
      → Rests (worker_state instances puts takes) at (worker_state (set instances at j) puts takes') × HeldAt pipes worker (worker_state (set instances at j) puts takes') at
  take_rest port j takes' wanted h = (
    rest_same j takes' h.0 h.1,
    subst (λ (w : Want). Held pipes worker (worker_state (set instances at j) puts takes') at w) (sym (ap want (now_at j ∙ h.0) ∙ wanted)) tt,
  )

  pub end_event : (j : Instance) → want i ≡ End → j ≡ finish i → Happens worker (worker_state instances puts takes) at (worker_state (set instances at j) puts takes)
  end_event j wanted same = inr (inr (record {
    wanted = ap want (sym at_is) ∙ wanted;
    instance = now_at j ∙ same ∙ ap finish at_is;
    others = others_stay j;
    put = λ edge to. refl;
    taken = λ edge from. refl;
  }))

  pub done_rest : want i ≡ Done → Rests (worker_state instances puts takes) at (worker_state (set instances at i) puts takes) × HeldAt pipes worker (worker_state (set instances at i) puts takes) at
  done_rest wanted = (
    rest_same i takes refl (λ a b. refl),
    subst (λ (w : Want). Held pipes worker (worker_state (set instances at i) puts takes) at w) (sym (ap want (now_at i) ∙ wanted)) tt,
  )

  pub put_stepped : (to : ℕ) (j : Instance) (puts' : EndTable) (t : Attempt) → want i ≡ Put to → AfterAttempt t (HasPutTo i at to puts j puts') (HasNotPutTo pipes worker i at to puts j puts')
      → HasStepped pipes worker (worker_state instances puts takes) at (worker_state (set instances at j) puts' takes) t
  put_stepped to j puts' t wanted h = map_attempt t (put_event to j puts' wanted) (put_rest to j puts' wanted) h

  pub take_stepped : {E : Type 0} (port : ℕ) (j : Instance) (takes' : EndTable) (r : Result Attempt E) → want i ≡ Take port
      → IfOk r (λ t. AfterAttempt t (TakesAt i worker port (λ a b. notes_in (cell takes a b)) j (λ a b. notes_in (cell takes' a b))) ((j ≡ i) × ((a b : ℕ) → notes_in (cell takes' a b) ≡ notes_in (cell takes a b))))
      → IfOk r (HasStepped pipes worker (worker_state instances puts takes) at (worker_state (set instances at j) puts takes'))
  take_stepped port j takes' (Ok t) wanted h = map_attempt t (take_event port j takes' wanted) (take_rest port j takes' wanted) h
  take_stepped port j takes' (Err e) wanted h = tt

-- ---- a worker that stays ready

pub stays_ready : (fields worker : ℕ) (pipes : PipeTables) (instances more : List Instance) (puts takes puts' takes' : EndTable) → Works worker (length instances) (worker_state instances puts takes) (worker_state more puts' takes')
    → length more ≡ length instances → ArePuts pipes worker puts' → AreTakes pipes worker takes' → StaysReady fields worker pipes instances puts takes more puts' takes'
stays_ready fields worker pipes instances more puts takes puts' takes' works same put_ends take_ends = record {
  stays = λ g r. record {
    physical = r.physical;
    fields_are = r.fields_are;
    below = r.below;
    few = omega (arith, r.few, same);
    only = λ at less. r.only at (omega (arith, less, same));
    local = works_kept g worker r.physical.plan.different (length instances) r.only (worker_state instances puts takes) (worker_state more puts' takes') r.local works;
    pipes_are = r.pipes_are;
    puts_are = put_ends;
    takes_are = take_ends;
  };
}

pub ready_after : (fields worker : ℕ) (pipes : PipeTables) (instances more : List Instance) (puts takes puts' takes' : EndTable) → IsReady fields worker pipes instances puts takes
    → Works worker (length instances) (worker_state instances puts takes) (worker_state more puts' takes') → length more ≡ length instances → ArePuts pipes worker puts' → AreTakes pipes worker takes'
    → IsReady fields worker pipes more puts' takes'
ready_after fields worker pipes instances more puts takes puts' takes' h works same put_ends take_ends =
    record { setting = h.setting; ready = (stays_ready fields worker pipes instances more puts takes puts' takes' works same put_ends take_ends).stays h.setting h.ready }

-- ---- a worker after its work

pub has_worked : {L W X E : Type 0} (fields : ℕ) (pipes : PipeTables) (before after : Worker L W) (old new : List Instance) (r : Result X E) → old ≡ before.instances.items → after.instances.items ≡ new → after.number ≡ before.number
    → length new ≡ length old → OnOk r (IsReady fields before.number pipes new after.puts after.takes) → OnOk r (StaysReady fields before.number pipes old before.puts before.takes new after.puts after.takes)
    → OnOk r (Works before.number (length old) (worker_state old before.puts before.takes) (worker_state new after.puts after.takes)) → OnOk r (AllHeld pipes before.number (length new) (worker_state new after.puts after.takes))
    → OnOk r (HasWorked fields pipes before after)
has_worked fields pipes before after old new (Ok x) old_is new_is number same ready stays works held = record {
  number = number;
  count = ap length new_is ∙ same ∙ ap length old_is;
  ready = subst (λ (l : List Instance). IsReady fields before.number pipes l after.puts after.takes) (sym new_is) ready;
  stays = subst (λ (x : List Instance × List Instance). StaysReady fields before.number pipes x.0 before.puts before.takes x.1 after.puts after.takes) (λ i. (old_is i, sym new_is i)) stays;
  works = subst (λ (x : List Instance × List Instance). Works before.number (length x.0) (worker_state x.0 before.puts before.takes) (worker_state x.1 after.puts after.takes)) (λ i. (old_is i, sym new_is i)) works;
  held = subst (λ (l : List Instance). AllHeld pipes before.number (length l) (worker_state l after.puts after.takes)) (sym new_is) held;
}
has_worked fields pipes before after old new (Err e) old_is new_is number same ready stays works held = tt
