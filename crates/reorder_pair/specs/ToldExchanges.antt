-- Exchanges that are described by conditions.
use Rattle.std.specs.Prelude.{◌≡◌, List, [], ◌∷◌}
use Rattle.plan_trees.specs.Plans.{PlanTree}
use Rattle.pact_operators.specs.Programs.{ProgramData}
use Rattle.reorder_pair.specs.declared.legality.Condition.{Condition}
use Rattle.reorder_pair.specs.Legal.{IsLegalFor}
use Rattle.reorder_pair.specs.Rules.{swapped}

-- the exchange that a condition describes is legal in the plan, with the condition's findings about the two operators
abbrev pub IsLegalIn : ProgramData → PlanTree → Condition → Type 0
IsLegalIn p t c = IsLegalFor p t c.at c.rule c.upper c.lower

-- the plan after it
abbrev pub after : Condition → PlanTree → PlanTree
after c t = swapped c.rule c.at t

-- exchanges that lead from one plan to another, each legal where it is made
abbrev pub Lead : ProgramData → PlanTree → List Condition → PlanTree → Type 0
Lead p t [] u = t ≡ u
Lead p t (c ∷ cs) u = IsLegalIn p t c × Lead p (after c t) cs u
