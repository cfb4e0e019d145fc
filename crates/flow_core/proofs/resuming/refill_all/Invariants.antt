use Rattle.std.proofs.Common.{◌≡◌}
use Rattle.flow_core.specs.Left.{AreFilled}
use Rattle.flow_core.proofs.resuming.refill_all.Given as goal

abbrev pub invariant-loop-left : goal.invariant-loop-left
invariant-loop-left g l = AreFilled l.world.physical l.fn.world.queued_instances l.yielded l.world.queued_instances × (l.world.physical ≡ l.fn.world.physical) × (l.world.depth ≡ l.fn.world.depth)
