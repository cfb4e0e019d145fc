-- What is chosen among plans and their layouts.
use Rattle.std.specs.Prelude.{ℕ, List, get_or, length}
use Rattle.cost_model.specs.Costs.{cost}
use Rattle.plan_trees.specs.Plans.{PlanTree, leaf}
use Rattle.pact_operators.specs.Programs.{ProgramData}
use Rattle.ship_strategy.specs.PlanFacts.{facts_of}
use Rattle.ship_strategy.specs.Layouts.{layout_count, layout_of}
use Rattle.plan_enumerate.specs.declared.choosing.Chosen.{Chosen}
use Rattle.plan_enumerate.specs.Leasts.{IsLeastPair}

-- the cost of a plan with one of its layouts, given by its number
abbrev pub layout_cost : ProgramData → List ℕ → ℕ → PlanTree → ℕ → ℕ
layout_cost p counts workers t number = cost p counts (layout_of (facts_of p t) p.ops t number workers)

-- the cost of the plan at a place, with one of its layouts
abbrev pub pair_cost : ProgramData → List PlanTree → List ℕ → ℕ → ℕ → ℕ → ℕ
pair_cost p plans counts workers entry number = layout_cost p counts workers (get_or plans entry (leaf 0)) number

-- The first pair of a plan and one of its layouts that costs least: no pair costs less, and each pair before it costs
-- more. Pairs are in the order of the plans, and those of one plan in the order of its layouts.
abbrev pub IsChosen : ProgramData → List PlanTree → List ℕ → ℕ → Chosen → Type 0
IsChosen p plans counts workers c = IsLeastPair (pair_cost p plans counts workers) (length plans) (layout_count p.ops) c.entry c.layout c.cost
