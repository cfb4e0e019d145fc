use Rattle.std.proofs.Common.{length}
use Rattle.flow_run.proofs.WorkerLists.{AssignedSoFar}
use Rattle.flow_run.proofs.assigning.assign.Given as goal

abbrev pub invariant-loop-at : goal.invariant-loop-at
invariant-loop-at g l = AssignedSoFar l.physical (length l.program.ops) l.depth l.fn.list l.list l.at l.network.pipes l.network.workers.items
