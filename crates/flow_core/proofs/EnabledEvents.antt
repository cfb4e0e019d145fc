-- What follows for an instance from an enabled event that it does.
use Rattle.std.proofs.Common.{◌∷◌, [], ◌≡◌, ◌<◌, ◌&&◌, ℕ, true, false, Option, None, Some, List, length, slice_get, nat_lt, refl, subst, sym, ◌∙◌}
use Rattle.std.proofs.lemmas.Bool.{and_parts, ltb-true}
use Rattle.plan_trees.specs.Plans.{has, subtree_of}
use Rattle.flow_instance.specs.declared.notes.Event.TheVariants as events
use Rattle.flow_instance.specs.declared.notes.Note.{Note}
use Rattle.flow_instance.specs.declared.notes.Note.TheVariants.{Batch, End as EndNote}
use Rattle.flow_instance.specs.declared.notes.PipeId.{PipeId}
use Rattle.flow_instance.specs.declared.notes.Want.TheVariants.{Take}
use Rattle.flow_instance.specs.Events.{first_note}
use Rattle.flow_instance.specs.Instances.{want}
use Rattle.flow_instance.specs.Local.{sender_ended}
use Rattle.flow_instance.specs.Notes.{AreNotes, IsNote, has_end}
use Rattle.flow_instance.specs.Spots.{Port, Setting, is_edge, ports_of, setting}
use Rattle.flow_instance.specs.Worlds.{can_take, does_want, enabled, lists_at, reader_of}
use Rattle.flow_instance.proofs.Events.{wants_take}
use Rattle.flow_instance.proofs.StandsAfterEvents.{can_be_taken}
use Rattle.flow_core.specs.QueuedInstances.{IsReadyFor}
use Rattle.flow_core.specs.Worlds.{StandsForSome, WorldData, instance_in, queue_in, seen}

pub record IsAt (w : WorldData) (at worker : ℕ) : Type 0 where
  pub there : has at w.physical.tree ≡ true
  pub below : worker < w.physical.workers

abbrev some_setting : (w : WorldData) → StandsForSome w → Setting
some_setting w s = setting s.program s.inputs w.physical

one_note : (fields : ℕ) (note : Note) → IsNote fields note → AreNotes fields (note ∷ [])
one_note fields (Batch rows) h = (h.0, h.1, tt)
one_note fields EndNote h = refl

pub record CanTakeAt (w : WorldData) (p : PipeId) (at port : ℕ) : Type 0 where
  pub some : 0 < length (queue_in w.queued_instances p.edge p.from p.to)
  pub sender : IsAt w p.edge p.from
  pub receiver : IsAt w at p.to
  pub ready : IsReadyFor (instance_in w.queued_instances at p.to) p.to port p.from (first_note (queue_in w.queued_instances p.edge p.from p.to))

not_ended_from : (o : Option Port) (from worker : ℕ) (notes : List Note) → is_edge o from worker ≡ true → has_end notes ≡ false → sender_ended o from worker notes ≡ false
not_ended_from o from worker notes e h = rw (e, h) refl

can_take_by : (w : WorldData) (p : PipeId) (o : Option (ℕ × ℕ)) (at port : ℕ) → o ≡ Some (at, port) → can_take (seen w) p o ≡ true
    → (does_want (want (instance_in w.queued_instances at p.to)) (Take port) ≡ true) × (nat_lt 0 (length (queue_in w.queued_instances p.edge p.from p.to)) ≡ true)
can_take_by w p o at port e can =
    and_parts (does_want (want (instance_in w.queued_instances at p.to)) (Take port)) (nat_lt 0 (length (queue_in w.queued_instances p.edge p.from p.to)))
    (subst (λ (x : Option (ℕ × ℕ)). can_take (seen w) p x ≡ true) e can)

pub can_take_at : (w : WorldData) (p : PipeId) (at port : ℕ) → StandsForSome w → enabled w.physical w.depth (seen w) (events.Take p) ≡ true → reader_of p.edge w.physical.tree ≡ Some (at, port) → CanTakeAt w p at port
can_take_at w p at port s e reader =
    let g = some_setting w s in
    let parts = and_parts (nat_lt p.from w.physical.workers && nat_lt p.to w.physical.workers) _ e in
    let below = and_parts (nat_lt p.from w.physical.workers) (nat_lt p.to w.physical.workers) parts.0 in
    let from = ltb-true p.from w.physical.workers below.0 in
    let to = ltb-true p.to w.physical.workers below.1 in
    let can = can_take_by w p (reader_of p.edge w.physical.tree) at port reader parts.1 in
    let some = ltb-true 0 (length (queue_in w.queued_instances p.edge p.from p.to)) can.1 in
    let t = can_be_taken g (seen w) s.history p at port s.is_physical.plan.different s.standing.stands reader from to some in
    let l = s.standing.stands.instances at p.to t.found.has_reader to in
    let i = instance_in w.queued_instances at p.to in
    record {
      some = some;
      sender = record { there = t.found.has_edge; below = from };
      receiver = record { there = t.found.has_reader; below = to };
      ready = record {
        worker = l.part.worker;
        wanted = wants_take (want i) port can.0;
        edge = (λ x. is_edge (slice_get (l.part.ports x) port) p.from (l.part.worker x)) ∙ t.edge;
        below = subst (λ (n : ℕ). p.from < n) (sym l.part.workers) from;
        not_ended = l.ended port p.from from
            ∙ not_ended_from (slice_get (ports_of w.physical (subtree_of at w.physical.tree)) port) p.from p.to (lists_at s.history.taken (slice_get (ports_of w.physical (subtree_of at w.physical.tree)) port) p.from p.to) t.edge t.unended;
        fits = subst (λ (n : ℕ). AreNotes n (first_note (queue_in w.queued_instances p.edge p.from p.to) ∷ [])) (sym l.part.fields) (one_note g.fields (first_note (queue_in w.queued_instances p.edge p.from p.to)) t.note);
      };
    }

-- what nobody reads can't be taken
pub not_unread : (w : WorldData) (p : PipeId) → enabled w.physical w.depth (seen w) (events.Take p) ≡ true → reader_of p.edge w.physical.tree ≡ None → ⊥
not_unread w p e unread =
    let parts = and_parts (nat_lt p.from w.physical.workers && nat_lt p.to w.physical.workers) _ e in
    let clash : false ≡ true = subst (λ (o : Option (ℕ × ℕ)). can_take (seen w) p o ≡ true) unread parts.1 in
    cc
