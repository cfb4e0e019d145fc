use Rattle.std.proofs.Common.{refl}
use Rattle.flow_run.proofs.RunsOfWorkers.{jobs_more}
use Rattle.flow_run.proofs.schedules.jobs_of.Goals as goal

pub loop-worker-preserved : goal.loop-worker-preserved
loop-worker-preserved g c = jobs_more c.args.pipes.now c.loop-worker.yielded c.in-Some.worker c.loop-worker.jobs.items _ _ c.loop-worker.invariant c.in_ok-push.ensures.items refl refl
