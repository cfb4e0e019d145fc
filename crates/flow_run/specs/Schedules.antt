-- Jobs: workers with what they share.
use Rattle.std.specs.Prelude.{◌≡◌, ℕ, false, List, map}
use Rattle.std.specs.List.{AllByRecursion}
use Rattle.flow_run.specs.Ends.{PipeTables}
use Rattle.flow_run.specs.Workers.{HasWorked, IsWorkerReady}
use Rattle.flow_run.specs.declared.schedules.Job.{Job}
use Rattle.flow_run.specs.declared.workers.Worker.{Worker}

module _ {L W : Type 0} where
  abbrev pub job_worker : Job L W → Worker L W
  job_worker j = j.worker

  abbrev pub IsJobReady : ℕ → Job L W → Type 0
  IsJobReady fields j = IsWorkerReady fields j.pipes.now j.worker

  -- a job for each of these workers, with these pipes
  pub record AreJobs (pipes : PipeTables) (workers : List (Worker L W)) (jobs : List (Job L W)) : Type 0 where
    pub workers_are : map job_worker jobs ≡ workers
    pub pipes_are : AllByRecursion (λ j. j.pipes.now ≡ pipes) jobs

  -- if the job didn't fail, its worker has worked
  pub record HasWorkedIn (fields : ℕ) (before after : Job L W) : Type 0 where
    pub works : after.failed ≡ false → HasWorked fields before.pipes.now before.worker after.worker

  -- the workers of the jobs, none of which failed
  pub record AreWorkersOf (jobs : List (Job L W)) (workers : List (Worker L W)) : Type 0 where
    pub workers_are : workers ≡ map job_worker jobs
    pub done : AllByRecursion (λ j. j.failed ≡ false) jobs
