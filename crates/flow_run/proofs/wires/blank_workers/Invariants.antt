use Rattle.flow_run.proofs.WorkerLists.{AreBlank}
use Rattle.flow_run.proofs.wires.blank_workers.Given as goal

abbrev pub invariant-loop-number : goal.invariant-loop-number
invariant-loop-number g l = AreBlank l.ops l.count l.number l.workers.items
