use Rattle.std.proofs.Common.{◌≡◌, map, take}
use Rattle.flow_core.specs.QueuedInstances.{total_given}
use Rattle.flow_core.proofs.worlds.counts_of.Given as goal

abbrev pub invariant-loop-op : goal.invariant-loop-op
invariant-loop-op g l = l.counts ≡ map total_given (take l.op-index l.ops)
