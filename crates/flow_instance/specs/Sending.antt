-- Notes in a queue, each with its receiver.
use Rattle.std.specs.Prelude.{◌≡◌, ◌<◌, ◌≤◌, ◌+◌, ◌⊎◌, ℕ, true, List, [], ◌∷◌, ◌++◌, length, map, get_or}
use Rattle.std.specs.List.{AllByRecursion}
use Rattle.flow_instance.specs.Local.{marks_for, one_if, rows_for}
use Rattle.flow_instance.specs.declared.notes.Note.{Note}
use Rattle.flow_instance.specs.declared.notes.Note.TheVariants.{Batch, End}
use Rattle.pact_operators.specs.Allowed.{Bag}
use Rattle.pact_record.specs.Widths.{AreWide}
use Rattle.plan_trees.specs.Sending.{has_pipe, sent}
use Rattle.plan_trees.specs.declared.physicals.Ship.{Ship}
use Rattle.plan_trees.specs.declared.physicals.Ship.TheVariants.{Partition}
use Rattle.flow_instance.specs.declared.addressed_notes.AddressedNote.{AddressedNote}

-- ---- a queue as a list of batches and a list of end marks

abbrev pub with_batch : ℕ → Note → List (ℕ × Bag) → List (ℕ × Bag)
with_batch to (Batch rows) others = (to, rows) ∷ others
with_batch to End others = others

abbrev pub with_mark : ℕ → Note → List ℕ → List ℕ
with_mark to (Batch rows) others = others
with_mark to End others = to ∷ others

-- the batches with their receivers
abbrev pub batches_in : List AddressedNote → List (ℕ × Bag)
batches_in [] = []
batches_in (p ∷ queue) = with_batch p.to p.note (batches_in queue)

-- the receivers of the end marks
abbrev pub marks_in : List AddressedNote → List ℕ
marks_in [] = []
marks_in (p ∷ queue) = with_mark p.to p.note (marks_in queue)

abbrev pub addressed_batch : ℕ × Bag → AddressedNote
addressed_batch w = record { to = w.0; note = Batch w.1 }

abbrev pub addressed_mark : ℕ → AddressedNote
addressed_mark to = record { to = to; note = End }

-- every batch is before every end mark
abbrev pub IsInOrder : List AddressedNote → Type 0
IsInOrder queue = queue ≡ map addressed_batch (batches_in queue) ++ map addressed_mark (marks_in queue)

-- a batch of at most `most` records, or an end mark
abbrev pub IsFew : ℕ → Note → Type 0
IsFew most (Batch rows) = length rows ≤ most
IsFew most End = Unit {0}

-- each note of a queue satisfies `IsFew`
abbrev pub AreFew : ℕ → List AddressedNote → Type 0
AreFew most queue = AllByRecursion (λ p. IsFew most p.note) queue

-- ---- batches for one receiver

-- a batch for this worker
abbrev pub IsBatchFor : ℕ → ℕ → ℕ × Bag → Type 0
IsBatchFor fields to w = (w.0 ≡ to) × (0 < length w.1) × AreWide fields w.1

-- batches that carry these records to the worker were added at the end of the queue
pub record AreCarried (fields to : ℕ) (rows : Bag) (old new : List AddressedNote) : Type 0 where
  pub more : List (ℕ × Bag)
  pub behind : new ≡ old ++ map addressed_batch more
  pub batches : AllByRecursion (IsBatchFor fields to) more
  pub carried : rows_for to more ≡ rows

-- batches with some of the records were added at the end of the queue, and the others are held
pub record AreCarriedBut (fields to : ℕ) (rows : Bag) (old new : List AddressedNote) (held : Bag) : Type 0 where
  pub more : List (ℕ × Bag)
  pub behind : new ≡ old ++ map addressed_batch more
  pub batches : AllByRecursion (IsBatchFor fields to) more
  pub carried : rows_for to more ++ held ≡ rows
  pub wide : AreWide fields held

-- ---- all receivers

-- a worker to which the edge leads
abbrev pub HasPipe : (workers : ℕ) → Ship → (from to : ℕ) → Type 0
HasPipe workers ship from to = (to < workers) × (has_pipe ship from to ≡ true)

abbrev pub IsSent : (fields workers : ℕ) → Ship → (from : ℕ) → ℕ × Bag → Type 0
IsSent fields workers ship from w = HasPipe workers ship from w.0 × (0 < length w.1) × AreWide fields w.1

-- a queue of batches that carry each record to the workers that it goes to
pub record AreSent (fields workers : ℕ) (ship : Ship) (from : ℕ) (rows : Bag) (queue : List AddressedNote) : Type 0 where
  pub list : List (ℕ × Bag)
  pub is : queue ≡ map addressed_batch list
  pub batches : AllByRecursion (IsSent fields workers ship from) list
  pub each : (to : ℕ) → to < workers → rows_for to list ≡ sent ship workers from to rows
  pub others : (to : ℕ) → workers ≤ to → rows_for to list ≡ []

-- The receiver after n others. A sender begins with the worker of its own number and goes around.
abbrev pub IsTurn : (workers from n to : ℕ) → Type 0
IsTurn workers from n to = (from + n ≡ to) ⊎ (from + n ≡ to + workers)

-- The queue has all rows for the first n receivers. For each of the others it has all rows but those that are held.
pub record AreSentSoFar (fields workers : ℕ) (ship : Ship) (from n : ℕ) (rows : Bag) (queue : List AddressedNote) (held : ℕ → Bag) : Type 0 where
  pub list : List (ℕ × Bag)
  pub is : queue ≡ map addressed_batch list
  pub batches : AllByRecursion (IsSent fields workers ship from) list
  pub each : (turn to : ℕ) → turn < n → to < workers → IsTurn workers from turn to → rows_for to list ≡ sent ship workers from to rows
  pub later : (turn to : ℕ) → n ≤ turn → turn < workers → to < workers → IsTurn workers from turn to → rows_for to list ++ held to ≡ sent ship workers from to rows
  pub others : (to : ℕ) → workers ≤ to → rows_for to list ≡ []

-- `held` has each worker's open batch. The other rows that their key values send to a worker are in the queue.
pub record AreDivided (fields workers : ℕ) (keys : List ℕ) (from : ℕ) (rows : Bag) (queue : List AddressedNote) (held : List Bag) : Type 0 where
  pub long : length held ≡ workers
  pub wide : (to : ℕ) → AreWide fields (get_or held to [])
  pub sent : AreSentSoFar fields workers (Partition keys) from 0 rows queue (λ to. get_or held to [])

-- end marks for those of the first n workers to which the edge leads were added at the end of the queue
pub record AreMarked (workers : ℕ) (ship : Ship) (from n : ℕ) (old new : List AddressedNote) : Type 0 where
  pub list : List ℕ
  pub behind : new ≡ old ++ map addressed_mark list
  pub receivers : AllByRecursion (HasPipe workers ship from) list
  pub each : (to : ℕ) → to < n → marks_for to list ≡ one_if (has_pipe ship from to)
  pub later : (to : ℕ) → n ≤ to → marks_for to list ≡ 0
