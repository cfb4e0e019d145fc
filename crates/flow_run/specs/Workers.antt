-- Workers before and after their work.
use Rattle.std.specs.Prelude.{◌≡◌, ◌<◌, ℕ, List, length, map, slice_index_or}
use Rattle.flow_run.specs.WorkerStates.{AllHeld, WorkerState, IsReady, StaysReady, Works, worker_state}
use Rattle.flow_run.specs.Ends.{PipeTables}
use Rattle.flow_run.specs.WorkerData.{WorkerData}
use Rattle.flow_run.specs.declared.workers.Worker.{Worker}

module _ {L W : Type 0} where
  -- a worker as data, without its number
  abbrev pub data_of : Worker L W → WorkerData
  data_of w = record { instances = w.instances.items; puts = w.puts; takes = w.takes }

  abbrev pub all_data : List (Worker L W) → List WorkerData
  all_data ws = map data_of ws

  -- the worker as functions of places
  abbrev pub worker_state_of : Worker L W → WorkerState
  worker_state_of w = worker_state w.instances.items w.puts w.takes

  -- what `work` requires
  abbrev pub IsWorkerReady : ℕ → PipeTables → Worker L W → Type 0
  IsWorkerReady fields pipes w = IsReady fields w.number pipes w.instances.items w.puts w.takes

  -- The same worker after events of its own instances and nothing else. For all programs, plans and inputs: if its
  -- instances followed from the lists of its ends, they still do. Each instance is done, or waits for a note or for
  -- room.
  pub record HasWorked (fields : ℕ) (pipes : PipeTables) (before after : Worker L W) : Type 0 where
    pub number : after.number ≡ before.number
    pub count : length after.instances.items ≡ length before.instances.items
    pub ready : IsReady fields before.number pipes after.instances.items after.puts after.takes
    pub stays : StaysReady fields before.number pipes before.instances.items before.puts before.takes after.instances.items after.puts after.takes
    pub works : Works before.number (length before.instances.items) (worker_state_of before) (worker_state_of after)
    pub held : AllHeld pipes before.number (length after.instances.items) (worker_state_of after)

  -- the same workers, each after its work
  pub record HaveAllWorked (fields : ℕ) (pipes : PipeTables) (before after : List (Worker L W)) : Type 0 where
    pub long : length after ≡ length before
    pub each : (k : ℕ) (d : Worker L W) → k < length before → HasWorked fields pipes (slice_index_or before k d) (slice_index_or after k d)
