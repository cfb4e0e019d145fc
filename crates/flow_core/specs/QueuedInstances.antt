-- What an event does to a queued instance.
use Rattle.std.specs.Prelude.{◌≡◌, ◌<◌, ℕ, true, false, [], ◌∷◌, ◌++◌, get_or, length, set, slice_get, List}
use Rattle.flow_instance.specs.declared.notes.Note.{Note}
use Rattle.flow_instance.specs.declared.notes.Want.TheVariants.{Take}
use Rattle.flow_instance.specs.Instances.{Instance, ended_at, want}
use Rattle.flow_instance.specs.Local.{IsLocal}
use Rattle.flow_instance.specs.Notes.{AreNotes}
use Rattle.flow_instance.specs.Spots.{Spot, is_edge}
use Rattle.flow_instance.specs.Steps.{Took, finish, later, next_note, offered}
use Rattle.pact_operators.specs.Allowed.{Bag, count_of}
use Rattle.flow_instance.specs.Spread.{sum_below}
use Rattle.flow_core.specs.Worlds.{QueuedInstanceData, no_queued_instance}

-- a note was put
abbrev pub with_put : QueuedInstanceData → (to : ℕ) → QueuedInstanceData
with_put s to = record { instance = offered s.instance; queues = set s.queues to (get_or s.queues to [] ++ next_note s.instance.waiting ∷ []) }

-- a note was taken from a pipe
abbrev pub without_first : QueuedInstanceData → (to : ℕ) → QueuedInstanceData
without_first s to = record { instance = s.instance; queues = set s.queues to (later (get_or s.queues to [])) }

-- its instance has ended
abbrev pub with_end : QueuedInstanceData → QueuedInstanceData
with_end s = record { instance = finish s.instance; queues = s.queues }

-- The instance on the worker can take the note at the port from the sender.
pub record IsReadyFor (i : Instance) (on port sender : ℕ) (note : Note) : Type 0 where
  pub worker : i.part.worker ≡ on
  pub wanted : want i ≡ Take port
  pub edge : is_edge (slice_get i.part.ports port) sender i.part.worker ≡ true
  pub below : sender < i.part.workers
  pub not_ended : ended_at i port sender ≡ false
  pub fits : AreNotes i.part.fields (note ∷ [])

-- The instance can take it on its own worker. This is a record, like the next one, so that a caller can pass it on
-- without unfolding it.
pub record CanTake (i : Instance) (port sender : ℕ) (note : Note) : Type 0 where
  pub ready : IsReadyFor i i.part.worker port sender note

-- It has taken the note, no matter which notes were taken and put before.
pub record TakesNote (i : Instance) (port sender : ℕ) (note : Note) (j : Instance) : Type 0 where
  pub took : (s : Spot) (taken : ℕ → ℕ → List Note) (put : ℕ → List Note) → IsLocal s i.part.worker i taken put → Took s i.part.worker i port sender note j

-- ---- what the queued instances of a row leave

-- how many records a worker's instance emitted
abbrev pub given_by : List QueuedInstanceData → (worker : ℕ) → ℕ
given_by row worker = (get_or row worker no_queued_instance).instance.given

-- the records that a worker's instance placed
abbrev pub placed_by : List QueuedInstanceData → (worker : ℕ) → Bag
placed_by row worker = (get_or row worker no_queued_instance).instance.placed

-- how many records the instances emitted together, where the greatest 64-bit number also counts for more
abbrev pub total_given : List QueuedInstanceData → ℕ
total_given row = count_of (sum_below (length row) (given_by row))
