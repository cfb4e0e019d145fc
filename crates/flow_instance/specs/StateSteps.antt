-- The effect of an instance's steps on its fields.
use Rattle.std.specs.Prelude.{◌≡◌, ◌+◌, ℕ, Bool, true, List, ◌++◌, length, map}
use Rattle.flow_instance.specs.Instances.{Part}
use Rattle.flow_instance.specs.Local.{Placed}
use Rattle.flow_instance.specs.Steps.{Carry, Mark}
use Rattle.flow_instance.specs.declared.notes.Note.{Note}
use Rattle.pact_operators.specs.Allowed.{Bag, count_of}
use Rattle.pact_operators.specs.PlanOps.{PlanOps}
use Rattle.pact_record.specs.Widths.{AreWide}
use Rattle.flow_instance.specs.Sending.{AreFew, addressed_batch, addressed_mark}
use Rattle.flow_instance.specs.States.{AreGivenLast, AreOrderly, HasFlags, HasTaken, IsSoundIfTaking, part_of, spot_of}
use Rattle.flow_instance.specs.declared.addressed_notes.AddressedNote.{AddressedNote}
use Rattle.flow_instance.specs.declared.states.State.{State}

-- The records were placed, or wait in a queue of batches.
pub record HasGiven (p : Part) (out placed_before placed : Bag) (queue : List AddressedNote) : Type 0 where
  pub list : List (ℕ × Bag)
  pub is : queue ≡ map addressed_batch list
  pub carries : (ops : PlanOps) → Carry (spot_of p ops) p.worker out list
  pub places : Placed p.out (placed_before ++ out) placed
  pub wide : AreWide p.fields placed

-- End marks for all receivers were added at the end of the queue.
pub record HasMarked (p : Part) (old new : List AddressedNote) : Type 0 where
  pub list : List ℕ
  pub behind : new ≡ old ++ map addressed_mark list
  pub marks : (ops : PlanOps) → Mark (spot_of p ops) p.worker true list

-- It gave these records. Only `queue`, `placed` and `given` changed.
pub record Gives {L : Type 0} (s : State L) (out : Bag) (t : State L) : Type 0 where
  pub same : t ≡ record s { queue = t.queue; placed = t.placed; given = t.given }
  pub counted : t.given ≡ count_of (s.given + length out)
  pub sent : HasGiven (part_of s.part) out s.placed t.placed t.queue.items
  pub orderly : AreOrderly s.part.workers t.queue.items
  pub batches : AreFew s.part.batch t.queue.items

-- It gave these records for the groups of its kept rows. The kept rows may be in another order afterwards.
pub record GivesGroups {L : Type 0} (rows : L → Bag) (s t : State L) (out : Bag) : Type 0 where
  pub same : t ≡ record s { left = t.left; right = t.right }
  pub given : AreGivenLast rows s out
  pub left_wide : AreWide s.part.fields (rows t.left)
  pub right_wide : AreWide s.part.fields (rows t.right)
  pub widths : AreWide s.part.fields out

-- It took a note at a port from a sender, and is sound as long as it may still take.
pub record Takes {L : Type 0} (rows : L → Bag) (keys : L → List ℕ) (is_sealed : L → Bool) (s : State L) (port from : ℕ) (note : Note) (t : State L) : Type 0 where
  pub took : HasTaken rows s port from note t
  pub sound : IsSoundIfTaking rows keys is_sealed t
  pub orderly : AreOrderly t.part.workers t.queue.items
  pub flags : HasFlags t
  pub batches : AreFew t.part.batch t.queue.items
