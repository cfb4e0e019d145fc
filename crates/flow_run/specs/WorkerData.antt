-- Workers as data, and the history that their ends give.
use Rattle.std.specs.Prelude.{◌≡◌, ◌<◌, ◌≤◌, ◌++◌, ◌≢◌, ◌⊎◌, ℕ, true, Option, Some, None, List, [], ◌∷◌, get_or, length, map}
use Rattle.std.specs.List.{AllByRecursion}
use Rattle.batch_channel.specs.Ends.{APipe, AnEnd}
use Rattle.pact_operators.specs.Allowed.{Bag}
use Rattle.pact_operators.specs.Inputs.{AreInputsOf}
use Rattle.pact_operators.specs.Programs.{ProgramData}
use Rattle.plan_trees.specs.Physicals.{PhysicalData}
use Rattle.plan_trees.specs.Plans.{has, subtree_of}
use Rattle.flow_instance.specs.declared.notes.Note.{Note}
use Rattle.flow_instance.specs.Instances.{Instance}
use Rattle.flow_instance.specs.Spots.{Setting, setting}
use Rattle.flow_instance.specs.Worlds.{History, LocalAt, World}
use Rattle.flow_core.specs.Left.{IsPipeOf, LeftOn, left_on}
use Rattle.flow_core.specs.Worlds.{no_instance}
use Rattle.flow_run.specs.Ends.{ArePipes, ArePuts, AreTakes, EndTable, IsEndOf, PipeTables, notes_in}
use Rattle.flow_run.specs.Tables.{cell, cell_in}

-- A worker's instances by the number of their source or operator, and its ends.
pub record WorkerData : Type 0 where
  pub instances : List Instance
  pub puts : EndTable
  pub takes : EndTable

-- the default for a worker that doesn't exist
abbrev pub nothing : WorkerData
nothing = record { instances = []; puts = []; takes = [] }

abbrev pub worker_at : List WorkerData → (worker : ℕ) → WorkerData
worker_at ws worker = get_or ws worker nothing

-- the sender has the end that puts on a pipe, and the receiver the end that takes from it
abbrev pub put_at : List WorkerData → (edge from to : ℕ) → Option AnEnd
put_at ws edge from to = cell (worker_at ws from).puts edge to

abbrev pub take_at : List WorkerData → (edge from to : ℕ) → Option AnEnd
take_at ws edge from to = cell (worker_at ws to).takes edge from

-- ---- as a world

-- what the ends of all workers have put and taken
abbrev pub history_of : List WorkerData → History
history_of ws = record { put = λ edge from to. notes_in (put_at ws edge from to); taken = λ edge from to. notes_in (take_at ws edge from to) }

-- the instances of all workers, with empty pipes
abbrev pub instances_of : List WorkerData → World
instances_of ws = record { instance = λ at worker. get_or (worker_at ws worker).instances at no_instance; queue = λ edge from to. [] }

-- each instance follows from the lists of its worker's ends
abbrev pub AreLocal : Setting → List WorkerData → Type 0
AreLocal g ws = (at worker : ℕ) → has at g.physical.tree ≡ true → worker < g.physical.workers → LocalAt g (instances_of ws) (history_of ws) (subtree_of at g.physical.tree) at worker

-- they do so for some inputs of the program
pub record AreLocalForSome (p : ProgramData) (physical : PhysicalData) (ws : List WorkerData) : Type 0 where
  pub inputs : List Bag
  pub are_inputs : AreInputsOf p inputs
  pub local : AreLocal (setting p inputs physical) ws

-- ---- workers that have returned

-- Each worker of the plan is there, with an instance of each source and operator. The pipes are the plan's, and the
-- ends are theirs.
pub record HaveReturned (physical : PhysicalData) (ops : ℕ) (pipes : PipeTables) (ws : List WorkerData) : Type 0 where
  pub workers : length ws ≡ physical.workers
  pub instances : AllByRecursion (λ w. length w.instances ≡ ops) ws
  pub of_plan : ArePipes physical pipes
  pub puts : (worker : ℕ) → worker < physical.workers → ArePuts pipes worker (worker_at ws worker).puts
  pub takes : (worker : ℕ) → worker < physical.workers → AreTakes pipes worker (worker_at ws worker).takes

-- each pipe has both of its ends, and there are no others
pub record AreEnds (pipes : PipeTables) (ws : List WorkerData) : Type 0 where
  pub puts : (edge from to : ℕ) → IsEndOf (cell_in pipes edge from to) (put_at ws edge from to)
  pub takes : (edge from to : ℕ) → IsEndOf (cell_in pipes edge from to) (take_at ws edge from to)

-- ---- notes that are gathered

-- the pipe's ends are still there and have put and taken these notes, and none is listed
pub record IsThere (ws : List WorkerData) (lists : List LeftOn) (edge from to : ℕ) (put taken : List Note) : Type 0 where
  pub put_is : notes_in (put_at ws edge from to) ≡ put
  pub taken_is : notes_in (take_at ws edge from to) ≡ taken
  pub none : left_on lists edge from to ≡ []

-- the pipe was closed, and the notes put there are those taken, followed by those listed
pub record IsClosed (pipes : PipeTables) (lists : List LeftOn) (edge from to : ℕ) (put taken : List Note) : Type 0 where
  pub gone : cell_in pipes edge from to ≡ None
  pub whole : put ≡ taken ++ left_on lists edge from to

-- each pipe is still there or was closed; `h` has the notes that were put and taken
abbrev pub Hold : History → PipeTables → List WorkerData → List LeftOn → Type 0
Hold h pipes ws lists =
    (edge from to : ℕ) → IsThere ws lists edge from to (h.put edge from to) (h.taken edge from to) ⊎ IsClosed pipes lists edge from to (h.put edge from to) (h.taken edge from to)

-- the pipes that are still there and those that are listed are the plan's
pub record AreThePlans (p : PhysicalData) (pipes : PipeTables) (lists : List LeftOn) : Type 0 where
  pub there : (edge from to : ℕ) (pipe : APipe) → cell_in pipes edge from to ≡ Some pipe → IsPipeOf p (record { edge = edge; from = from; to = to })
  pub listed : AllByRecursion (λ l. IsPipeOf p l.pipe) lists

-- some pipes were closed
pub record Goes (pipes : PipeTables) (ws : List WorkerData) (lists : List LeftOn) (new_pipes : PipeTables) (new_ws : List WorkerData) (new_lists : List LeftOn) : Type 0 where
  pub ends : AreEnds new_pipes new_ws
  pub hold : (h : History) → Hold h pipes ws lists → Hold h new_pipes new_ws new_lists
  pub gone : (edge from to : ℕ) → cell_in pipes edge from to ≡ None → cell_in new_pipes edge from to ≡ None
  pub of_plan : (p : PhysicalData) → AreThePlans p pipes lists → AreThePlans p new_pipes new_lists
  pub instances : map (λ (w : WorkerData). w.instances) new_ws ≡ map (λ (w : WorkerData). w.instances) ws

-- no plan with `ops` sources and operators has a pipe with these numbers
abbrev pub IsBeyond : (ops edge from to : ℕ) → Type 0
IsBeyond ops edge from to = (ops ≤ edge) ⊎ ((16 ≤ from) ⊎ (16 ≤ to))

-- The notes put on each pipe are those taken, followed by those listed. The listed pipes are the plan's.
pub record AreGathered (pipes : PipeTables) (ws : List WorkerData) (lists : List LeftOn) (new : List WorkerData) : Type 0 where
  pub whole : (edge from to : ℕ) → notes_in (put_at ws edge from to) ≡ notes_in (take_at ws edge from to) ++ left_on lists edge from to
  pub of_plan : (p : PhysicalData) → ((edge from to : ℕ) (pipe : APipe) → cell_in pipes edge from to ≡ Some pipe → IsPipeOf p (record { edge = edge; from = from; to = to })) → AllByRecursion (λ l. IsPipeOf p l.pipe) lists
  pub instances : map (λ (w : WorkerData). w.instances) new ≡ map (λ (w : WorkerData). w.instances) ws

-- the end that puts on a pipe is gone, and nothing else
pub record IsPutOut (old : List WorkerData) (edge from to : ℕ) (new : List WorkerData) : Type 0 where
  pub gone : put_at new edge from to ≡ None
  pub puts : (a b c : ℕ) → (a ≢ edge) ⊎ ((b ≢ from) ⊎ (c ≢ to)) → put_at new a b c ≡ put_at old a b c
  pub takes : (a b c : ℕ) → take_at new a b c ≡ take_at old a b c
  pub instances : map (λ (w : WorkerData). w.instances) new ≡ map (λ (w : WorkerData). w.instances) old

-- the end that takes from a pipe is gone, and nothing else
pub record IsTakeOut (old : List WorkerData) (edge from to : ℕ) (new : List WorkerData) : Type 0 where
  pub gone : take_at new edge from to ≡ None
  pub takes : (a b c : ℕ) → (a ≢ edge) ⊎ ((b ≢ from) ⊎ (c ≢ to)) → take_at new a b c ≡ take_at old a b c
  pub puts : (a b c : ℕ) → put_at new a b c ≡ put_at old a b c
  pub instances : map (λ (w : WorkerData). w.instances) new ≡ map (λ (w : WorkerData). w.instances) old

-- both ends of a pipe are gone, and nothing else
pub record IsWithout (old : List WorkerData) (edge from to : ℕ) (new : List WorkerData) : Type 0 where
  pub put : put_at new edge from to ≡ None
  pub take : take_at new edge from to ≡ None
  pub puts : (a b c : ℕ) → (a ≢ edge) ⊎ ((b ≢ from) ⊎ (c ≢ to)) → put_at new a b c ≡ put_at old a b c
  pub takes : (a b c : ℕ) → (a ≢ edge) ⊎ ((b ≢ from) ⊎ (c ≢ to)) → take_at new a b c ≡ take_at old a b c
  pub instances : map (λ (w : WorkerData). w.instances) new ≡ map (λ (w : WorkerData). w.instances) old

-- ---- instances by number and then by worker

-- each row with one instance more
abbrev pub with_column : List (List Instance) → List Instance → List (List Instance)
with_column [] own = []
with_column (row ∷ rows) [] = row ∷ rows
with_column (row ∷ rows) (i ∷ own) = (row ++ i ∷ []) ∷ with_column rows own

-- each row with an instance from each of these lists
abbrev pub with_columns : List (List Instance) → List (List Instance) → List (List Instance)
with_columns rows [] = rows
with_columns rows (own ∷ more) = with_columns (with_column rows own) more
