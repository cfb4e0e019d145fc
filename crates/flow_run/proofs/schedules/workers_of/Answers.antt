use Rattle.flow_run.proofs.RunsOfWorkers.{returned_more}
use Rattle.flow_run.proofs.schedules.workers_of.Goals as goal

pub loop-job-preserved : goal.loop-job-preserved
loop-job-preserved g c = returned_more c.loop-job.yielded c.in-Some.job c.loop-job.workers.items _ c.loop-job.invariant c.if-failed.false c.in_ok-push.ensures.items
