use Rattle.std.proofs.Common.{◌≡◌, length}
use Rattle.flow_run.specs.WorkerStates.{IsReady, Works, worker_state}
use Rattle.flow_run.proofs.workers.turns.Given as goal

abbrev pub invariant-loop : goal.invariant-loop
invariant-loop g l =
    IsReady g.W.Width.fields l.context.number l.pipes l.instances l.puts l.takes × (length l.instances ≡ length l.fn.instances)
    × Works l.context.number (length l.fn.instances) (worker_state l.fn.instances l.fn.puts l.fn.takes) (worker_state l.instances l.puts l.takes)
