use Rattle.reorder_pair.specs.FindingTable.{AreFindings}
use Rattle.ship_strategy.specs.PlanFacts.{facts_of}
use Rattle.ship_strategy.specs.Views.{facts_in}
use Rattle.plan_enumerate.proofs.AnalysedPlans.{IsFilledBelow}
use Rattle.plan_enumerate.proofs.analysing.fill.Given as goal

abbrev pub invariant-loop-at : goal.invariant-loop-at
invariant-loop-at l = IsFilledBelow (facts_of l.program l.plan) l.at (facts_in l.table) × AreFindings l.program l.findings
