use Rattle.std.proofs.Common.{◌≡◌, length}
use Rattle.flow_run.specs.WorkerData.{with_column}
use Rattle.flow_run.specs.Wires.{KeepEnds, instances_in}
use Rattle.flow_run.proofs.assigning.assign_op.Given as goal

abbrev pub invariant-loop-instance : goal.invariant-loop-instance
invariant-loop-instance g l = (l.at ≡ length l.yielded) × (instances_in l.workers ≡ with_column (instances_in l.fn.workers) l.yielded) × KeepEnds l.fn.workers l.workers
