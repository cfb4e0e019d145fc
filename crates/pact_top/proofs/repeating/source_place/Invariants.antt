use Rattle.std.proofs.Common.{◌≡◌, ◌≤◌, length, take}
use Rattle.pact_operators.specs.PlanOps.{sources_of}
use Rattle.pact_top.proofs.repeating.source_place.Given as goal

abbrev pub invariant-loop-op : goal.invariant-loop-op
invariant-loop-op l = (l.place ≡ length (sources_of (take l.op-index l.op-items))) × (l.place ≤ l.op-index)
