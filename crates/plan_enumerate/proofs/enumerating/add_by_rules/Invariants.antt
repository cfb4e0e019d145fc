use Rattle.reorder_pair.specs.FindingTable.{AreFindings}
use Rattle.plan_enumerate.specs.Listing.{IsAt}
use Rattle.plan_enumerate.specs.Walks.{IsWalked}
use Rattle.plan_enumerate.proofs.enumerating.add_by_rules.Given as goal

abbrev pub invariant-loop-n : goal.invariant-loop-n
invariant-loop-n l = IsWalked l.program l.limit l.entries l.from l.at l.n × IsAt l.entries l.from l.plan × AreFindings l.program l.findings
