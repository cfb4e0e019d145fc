use Rattle.flow_run.specs.Schedules.{AreJobs}
use Rattle.flow_run.proofs.schedules.jobs_of.Given as goal

abbrev pub invariant-loop-worker : goal.invariant-loop-worker
invariant-loop-worker g l = AreJobs l.pipes l.yielded l.jobs.items
