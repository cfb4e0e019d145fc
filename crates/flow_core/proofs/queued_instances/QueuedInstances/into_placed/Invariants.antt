use Rattle.std.proofs.Common.{length}
use Rattle.flow_core.proofs.PlacedRows.{IsMoved}
use Rattle.flow_core.proofs.queued_instances.QueuedInstances.into_placed.Given as goal

abbrev pub invariant-loop-queued_instance : goal.invariant-loop-queued_instance
invariant-loop-queued_instance g l = IsMoved l.fn.self l.held.items l.rows

abbrev pub decreases-loop-queued_instance : goal.decreases-loop-queued_instance
decreases-loop-queued_instance g l = length l.held.items
