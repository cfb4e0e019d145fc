use Rattle.std.proofs.Common.{◌≤◌, ◌-◌, length}
use Rattle.reorder_pair.specs.FindingTable.{AreFindings}
use Rattle.plan_enumerate.specs.Walks.{IsWalked}
use Rattle.plan_enumerate.proofs.enumerating.walk.Given as goal

abbrev pub invariant-loop-from : goal.invariant-loop-from
invariant-loop-from l = IsWalked l.program l.limit l.entries l.from 0 0 × (l.from ≤ length l.entries) × AreFindings l.program l.findings

abbrev pub decreases-loop-from : goal.decreases-loop-from
decreases-loop-from l = l.limit - l.from
