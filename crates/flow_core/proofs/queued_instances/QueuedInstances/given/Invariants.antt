use Rattle.std.proofs.Common.{◌≡◌}
use Rattle.pact_operators.specs.Allowed.{count_of}
use Rattle.flow_instance.specs.Spread.{sum_below}
use Rattle.flow_core.specs.QueuedInstances.{given_by}
use Rattle.flow_core.proofs.queued_instances.QueuedInstances.given.Given as goal

abbrev pub invariant-loop-queued_instance : goal.invariant-loop-queued_instance
invariant-loop-queued_instance g l = l.total ≡ count_of (sum_below l.queued_instance-index (given_by l.queued_instance-items))
