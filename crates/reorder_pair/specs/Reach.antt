-- The plans that legal exchanges lead to.
use Rattle.std.specs.Prelude.{ℕ}
use Rattle.plan_trees.specs.Plans.{PlanTree}
use Rattle.pact_operators.specs.Programs.{ProgramData}
use Rattle.reorder_pair.specs.declared.rules.Rule.{Rule}
use Rattle.reorder_pair.specs.Legal.{IsLegal}
use Rattle.reorder_pair.specs.Rules.{swapped}

-- The smallest set of plans that contains the plan as written and, with each plan, the result of every legal exchange
-- of it.
pub data Reach (p : ProgramData) : PlanTree → Type 0 where
  as_written : Reach p p.plan
  exchanged : (t : PlanTree) (at : ℕ) (rule : Rule) → Reach p t → IsLegal p t at rule → Reach p (swapped rule at t)
