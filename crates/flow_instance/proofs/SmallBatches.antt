-- Batches stay within their size.
use Rattle.std.proofs.Common.{◌≡◌, ◌≤◌, ℕ, List, [], ◌∷◌, length, map, ap, sym, ◌∙◌, subst}
use Rattle.std.specs.List.{AllByRecursion}
use Rattle.flow_instance.specs.Instances.{HasSmallBatches, Part}
use Rattle.flow_instance.specs.declared.notes.Note.{Note}
use Rattle.flow_instance.specs.declared.notes.Note.TheVariants.{Batch, End}
use Rattle.pact_operators.specs.Allowed.{Bag}
use Rattle.pact_record.proofs.Lists.{AllByRecursion-append}
use Rattle.flow_instance.specs.Sending.{AreFew, IsFew, batches_in, addressed_mark, with_batch}
use Rattle.flow_instance.specs.States.{HasBegun, HasEnded, part_of, seen}
use Rattle.flow_instance.specs.StateSteps.{HasMarked}
use Rattle.flow_instance.specs.declared.addressed_notes.AddressedNote.{AddressedNote}
use Rattle.flow_instance.specs.declared.states.State.{State}
use Rattle.flow_instance.proofs.NotesForReceivers.{none_few}

-- ---- end marks

marks_few : (most : ℕ) (marks : List ℕ) → AreFew most (map addressed_mark marks)
marks_few most [] = tt
marks_few most (m ∷ marks) = (tt, marks_few most marks)

-- end marks follow the batches
pub few_marked : (most : ℕ) (p : Part) (old new : List AddressedNote) → AreFew most old → HasMarked p old new → AreFew most new
few_marked most p old new few m = subst (AreFew most) (sym m.behind) (AllByRecursion-append (λ (x : AddressedNote). IsFew most x.note) old (map addressed_mark m.list) few (marks_few most m.list))

-- ---- the batches of a queue

with_note : (most to : ℕ) (note : Note) (others : List (ℕ × Bag)) → IsFew most note → AllByRecursion (λ w. length w.1 ≤ most) others → AllByRecursion (λ w. length w.1 ≤ most) (with_batch to note others)
with_note most to (Batch rows) others few h = (few, h)
with_note most to End others few h = h

few_batches : (most : ℕ) (queue : List AddressedNote) → AreFew most queue → AllByRecursion (λ w. length w.1 ≤ most) (batches_in queue)
few_batches most [] h = tt
few_batches most (p ∷ queue) h = with_note most p.to p.note (batches_in queue) h.0 (few_batches most queue h.1)

module _ {L : Type 0} (rows : L → Bag) where
  -- the batches of an instance
  pub small_batches : (s : State L) → AreFew s.part.batch s.queue.items → HasSmallBatches (seen rows s)
  small_batches s few = few_batches s.part.batch s.queue.items few

  -- an instance at its start
  pub small_started : (s t : State L) (out : Bag) → HasBegun rows s out t → AreFew s.part.batch t.queue.items → HasSmallBatches (seen rows t)
  small_started s t out b few = small_batches t (subst (λ (n : ℕ). AreFew n t.queue.items) (sym (ap (λ (u : State L). u.part.batch) b.same)) few)

  -- some sender hasn't ended
  pub few_more : (s t : State L) (port from : ℕ) → s.queue.items ≡ [] → HasEnded rows s port from t → AreFew t.part.batch t.queue.items
  few_more s t port from none e = none_few t.part.batch t.queue.items (ap (λ (u : State L). u.queue.items) e.same ∙ none)

  -- all senders have ended
  pub few_last : (b c d : State L) → c ≡ record b { queue = c.queue; placed = c.placed; given = c.given } → d ≡ record c { queue = d.queue } → AreFew b.part.batch c.queue.items → HasMarked (part_of c.part) c.queue.items d.queue.items
      → AreFew d.part.batch d.queue.items
  few_last b c d given marked few m =
      let same = ap (λ (u : State L). u.part.batch) marked ∙ ap (λ (u : State L). u.part.batch) given in
      subst (λ (n : ℕ). AreFew n d.queue.items) (sym same) (few_marked b.part.batch (part_of c.part) c.queue.items d.queue.items few m)
