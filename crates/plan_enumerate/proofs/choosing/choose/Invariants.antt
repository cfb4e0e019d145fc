use Rattle.ship_strategy.specs.Layouts.{layout_count}
use Rattle.ship_strategy.specs.EarlierFindings.{AreTrueFindings}
use Rattle.plan_enumerate.specs.Choices.{pair_cost}
use Rattle.plan_enumerate.specs.Leasts.{IsLeastPair}
use Rattle.plan_enumerate.specs.Listing.{plans_of}
use Rattle.plan_enumerate.proofs.choosing.choose.Given as goal

abbrev pub invariant-loop-entry : goal.invariant-loop-entry
invariant-loop-entry l =
    IsLeastPair (pair_cost l.program (plans_of l.listed.entries) l.counts l.workers) l.entry (layout_count l.program.ops) l.chosen.entry l.chosen.layout l.chosen.cost × AreTrueFindings l.program l.seen.tables
