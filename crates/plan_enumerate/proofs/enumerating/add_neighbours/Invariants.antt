use Rattle.reorder_pair.specs.FindingTable.{AreFindings}
use Rattle.plan_enumerate.specs.Listing.{IsAt}
use Rattle.plan_enumerate.specs.Walks.{IsWalked}
use Rattle.plan_enumerate.proofs.enumerating.add_neighbours.Given as goal

abbrev pub invariant-loop-at : goal.invariant-loop-at
invariant-loop-at l = IsWalked l.program l.limit l.entries l.from l.at 0 × IsAt l.entries l.from l.plan × AreFindings l.program l.findings
