use Rattle.std.proofs.Common.{◌≡◌, length}
use Rattle.flow_run.specs.WorkerData.{with_column}
use Rattle.flow_run.proofs.arranging.add_column.Given as goal

abbrev pub invariant-loop-instance : goal.invariant-loop-instance
invariant-loop-instance g l = (l.at ≡ length l.yielded) × (l.list ≡ with_column l.fn.list l.yielded)
