use Rattle.flow_run.specs.Schedules.{AreWorkersOf}
use Rattle.flow_run.proofs.schedules.workers_of.Given as goal

abbrev pub invariant-loop-job : goal.invariant-loop-job
invariant-loop-job g l = AreWorkersOf l.yielded l.workers.items
