use Rattle.std.proofs.Common.{◌≡◌}
use Rattle.flow_run.proofs.StartedJobs.{oks}
use Rattle.flow_run.proofs.thread_starts.all_started.Given as goal

abbrev pub invariant-loop-one : goal.invariant-loop-one
invariant-loop-one g l = l.yielded ≡ oks l.held.items
