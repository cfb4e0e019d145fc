-- A world as data, and the histories that it represents.
use Rattle.std.specs.Prelude.{◌≡◌, ◌<◌, ◌≤◌, ℕ, true, List, [], None, get_or, length}
use Rattle.tac_syntax.specs.Code.{stop}
use Rattle.tac_syntax.specs.declared.declarations.OpKind.TheVariants.{Source}
use Rattle.plan_trees.specs.Physicals.{IsPhysical, PhysicalData}
use Rattle.plan_trees.specs.Plans.{has}
use Rattle.pact_operators.specs.Allowed.{Bag}
use Rattle.pact_operators.specs.Inputs.{AreInputsOf}
use Rattle.pact_operators.specs.Programs.{IsPlanOf, IsProgram, ProgramData}
use Rattle.flow_instance.specs.declared.notes.Note.{Note}
use Rattle.flow_instance.specs.Instances.{Instance}
use Rattle.flow_instance.specs.Spots.{Setting, setting}
use Rattle.flow_instance.specs.Worlds.{History, Stands, World}

-- the greatest depth: a pipe holds at most this number of notes
abbrev pub depth_limit : ℕ
depth_limit = 64

-- An instance with the notes on the pipes that leave it, by receiver.
pub record QueuedInstanceData : Type 0 where
  pub instance : Instance
  pub queues : List (List Note)

-- The queued instances are listed by the number of their source or operator, and then by worker.
pub record WorldData : Type 0 where
  pub physical : PhysicalData
  pub depth : ℕ
  pub queued_instances : List (List QueuedInstanceData)

-- ---- a world as functions of places

-- the default for an instance that doesn't exist; it wants nothing
abbrev pub no_instance : Instance
no_instance = record {
  part = record { at = 0; kind = Source; body = stop; left_keys = []; right_keys = []; nulls = true; fields = 0; worker = 0; workers = 0; batch = 0; ports = []; out = None };
  left_ended = [];
  right_ended = [];
  left_kept = [];
  right_kept = [];
  waiting = [];
  marks = [];
  receiver = 0;
  placed = [];
  given = 0;
  finished = true;
}

-- an instance that is done, with no pipe
abbrev pub no_queued_instance : QueuedInstanceData
no_queued_instance = record { instance = no_instance; queues = [] }

-- the instance of a source or operator on a worker, with the pipes that leave it
abbrev pub queued_instance_in : List (List QueuedInstanceData) → (at worker : ℕ) → QueuedInstanceData
queued_instance_in queued_instances at worker = get_or (get_or queued_instances at []) worker no_queued_instance

-- the instance without its pipes
abbrev pub instance_in : List (List QueuedInstanceData) → (at worker : ℕ) → Instance
instance_in queued_instances at worker = (queued_instance_in queued_instances at worker).instance

-- the notes on the pipe of an edge from one worker to another
abbrev pub queue_in : List (List QueuedInstanceData) → (edge from to : ℕ) → List Note
queue_in queued_instances edge from to = get_or (queued_instance_in queued_instances edge from).queues to []

-- the world that these queued instances represent
abbrev pub seen : WorldData → World
seen w = record { instance = λ at worker. instance_in w.queued_instances at worker; queue = λ edge from to. queue_in w.queued_instances edge from to }

-- each instance has this batch size
abbrev pub HasBatchSize : WorldData → ℕ → Type 0
HasBatchSize w size = (at worker : ℕ) → has at w.physical.tree ≡ true → worker < w.physical.workers → (instance_in w.queued_instances at worker).part.batch ≡ size

-- ---- worlds that represent a history

-- The queued instances are those of the plan's numbers, one on each worker, with a pipe to each.
pub record IsWhole (p : PhysicalData) (queued_instances : List (List QueuedInstanceData)) : Type 0 where
  pub each : (at : ℕ) → has at p.tree ≡ true → at < length queued_instances
  pub only : (at : ℕ) → at < length queued_instances → has at p.tree ≡ true
  pub workers : (at : ℕ) → at < length queued_instances → length (get_or queued_instances at []) ≡ p.workers
  pub pipes : (at worker : ℕ) → at < length queued_instances → worker < p.workers → length (queued_instance_in queued_instances at worker).queues ≡ p.workers

-- The world represents the history in a run of the setting's sources and operators.
pub record IsStanding (g : Setting) (w : WorldData) (h : History) : Type 0 where
  pub physical : w.physical ≡ g.physical
  pub whole : IsWhole w.physical w.queued_instances
  pub stands : Stands g (seen w) h

-- It represents some history of a run of some program.
pub record StandsForSome (w : WorldData) : Type 0 where
  pub program : ProgramData
  pub inputs : List Bag
  pub history : History
  pub is_program : IsProgram program
  pub are_inputs : AreInputsOf program inputs
  pub is_physical : IsPhysical w.physical
  pub plan : IsPlanOf program.functions program.ops w.physical.tree
  pub some_depth : 1 ≤ w.depth
  pub standing : IsStanding (setting program inputs w.physical) w history
