-- What a run has left: instances, and notes on pipes.
use Rattle.std.specs.Prelude.{◌≡◌, ◌<◌, ◌++◌, ℕ, true, cond, List, [], ◌∷◌, get_or, length, set}
use Rattle.std.specs.List.{AllByRecursion}
use Rattle.plan_trees.specs.Physicals.{PhysicalData}
use Rattle.plan_trees.specs.Plans.{has}
use Rattle.pact_operators.specs.Allowed.{Bag}
use Rattle.pact_operators.specs.Inputs.{AreInputsOf}
use Rattle.pact_operators.specs.Programs.{ProgramData}
use Rattle.flow_instance.specs.declared.notes.Note.{Note}
use Rattle.flow_instance.specs.declared.notes.PipeId.{PipeId}
use Rattle.flow_instance.specs.Events.{is_pipe}
use Rattle.flow_instance.specs.Instances.{Instance}
use Rattle.flow_instance.specs.Spots.{setting}
use Rattle.flow_instance.specs.Worlds.{History, Stands, World}
use Rattle.flow_core.specs.Worlds.{IsWhole, QueuedInstanceData, instance_in, no_instance, no_queued_instance, queue_in}

-- The notes that are left on a pipe, the next one first.
pub record LeftOn : Type 0 where
  pub pipe : PipeId
  pub notes : List Note

-- ---- as a world

-- the instance of a source or operator on a worker, from instances listed by number and then by worker
abbrev pub instance_of : List (List Instance) → (at worker : ℕ) → Instance
instance_of rows at worker = get_or (get_or rows at []) worker no_instance

-- all notes that are listed for a pipe, in the order of the list
abbrev pub left_on : List LeftOn → (edge from to : ℕ) → List Note
left_on [] edge from to = []
left_on (l ∷ lists) edge from to = cond (is_pipe l.pipe edge from to) l.notes [] ++ left_on lists edge from to

-- the world of the instances and the notes
abbrev pub left_world : List (List Instance) → List LeftOn → World
left_world rows lists = record { instance = λ at worker. instance_of rows at worker; queue = λ edge from to. left_on lists edge from to }

-- ---- the instances and notes of a plan

-- the plan has the sender, and both are workers
pub record IsPipeOf (p : PhysicalData) (pipe : PipeId) : Type 0 where
  pub edge : has pipe.edge p.tree ≡ true
  pub from : pipe.from < p.workers
  pub to : pipe.to < p.workers

-- The instances are those of the plan's numbers, one on each worker, and each pipe that is listed is the plan's.
pub record AreOfPlan (p : PhysicalData) (rows : List (List Instance)) (lists : List LeftOn) : Type 0 where
  pub each : (at : ℕ) → has at p.tree ≡ true → at < length rows
  pub only : (at : ℕ) → at < length rows → has at p.tree ≡ true
  pub workers : (at : ℕ) → at < length rows → length (get_or rows at []) ≡ p.workers
  pub pipes : AllByRecursion (λ l. IsPipeOf p l.pipe) lists

-- they represent some history of a run of the program
pub record StandForSome (p : ProgramData) (physical : PhysicalData) (rows : List (List Instance)) (lists : List LeftOn) : Type 0 where
  pub inputs : List Bag
  pub history : History
  pub are_inputs : AreInputsOf p inputs
  pub stand : Stands (setting p inputs physical) (left_world rows lists) history

-- ---- as queued instances

-- the instance, with an empty pipe to each worker
pub record IsEmptied (workers : ℕ) (i : Instance) (s : QueuedInstanceData) : Type 0 where
  pub instance : s.instance ≡ i
  pub long : length s.queues ≡ workers
  pub empty : AllByRecursion (λ queue. queue ≡ []) s.queues

-- `count` emptied instances of one source or operator
pub record AreEmptied (workers count : ℕ) (own : List Instance) (row : List QueuedInstanceData) : Type 0 where
  pub long : length row ≡ count
  pub each : (k : ℕ) → k < count → IsEmptied workers (get_or own k no_instance) (get_or row k no_queued_instance)

-- the emptied instances of `count` sources and operators
pub record AreAllEmptied (workers count : ℕ) (rows : List (List Instance)) (queued_instances : List (List QueuedInstanceData)) : Type 0 where
  pub long : length queued_instances ≡ count
  pub each : (at : ℕ) → at < count → AreEmptied workers (length (get_or rows at [])) (get_or rows at []) (get_or queued_instances at [])

-- These notes were appended to those on the pipes, and nothing more has changed.
pub record AreFilled (p : PhysicalData) (old : List (List QueuedInstanceData)) (lists : List LeftOn) (new : List (List QueuedInstanceData)) : Type 0 where
  pub whole : IsWhole p new
  pub instances : (at worker : ℕ) → instance_in new at worker ≡ instance_in old at worker
  pub queues : (edge from to : ℕ) → queue_in new edge from to ≡ queue_in old edge from to ++ left_on lists edge from to

-- with notes appended to those of one pipe
abbrev pub refilled : QueuedInstanceData → (to : ℕ) → List Note → QueuedInstanceData
refilled s to notes = record { instance = s.instance; queues = set s.queues to (get_or s.queues to [] ++ notes) }
