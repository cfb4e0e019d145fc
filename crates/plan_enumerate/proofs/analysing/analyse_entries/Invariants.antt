use Rattle.std.proofs.Common.{◌≡◌, length}
use Rattle.reorder_pair.specs.FindingTable.{AreFindings}
use Rattle.plan_enumerate.specs.KnownPlans.{AreTablesOf}
use Rattle.plan_enumerate.specs.Listing.{plans_of}
use Rattle.plan_enumerate.proofs.analysing.analyse_entries.Given as goal

abbrev pub invariant-loop-entry : goal.invariant-loop-entry
invariant-loop-entry l = (length l.known ≡ l.entry) × AreTablesOf l.program (plans_of l.entries) l.known × AreFindings l.program l.findings
