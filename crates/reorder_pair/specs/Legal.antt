-- Legal exchanges: at an operator of a plan, by a rule.
use Rattle.std.specs.Prelude.{◌≡◌, ◌⊎◌, ℕ, List}
use Rattle.plan_trees.specs.Plans.{PlanTree, subtree_of}
use Rattle.pact_operators.specs.Allowed.{AllowSame, Bag}
use Rattle.pact_operators.specs.Inputs.{AreInputsOf}
use Rattle.pact_operators.specs.PlanOps.{plan_ops}
use Rattle.pact_operators.specs.Programs.{ProgramData}
use Rattle.reorder_pair.specs.declared.finding.Found.{Found}
use Rattle.reorder_pair.specs.declared.legality.Condition.{Condition}
use Rattle.reorder_pair.specs.declared.legality.NotLegal.{NotLegal}
use Rattle.reorder_pair.specs.declared.legality.NotLegal.TheVariants.{NoPlace}
use Rattle.reorder_pair.specs.declared.rules.Rule.{Rule}
use Rattle.reorder_pair.specs.Conditions.{AllPass, FirstFails, Line, lines, shared_lines, uses_of}
use Rattle.reorder_pair.specs.Places.{AreFound, IsPlace}
use Rattle.reorder_pair.specs.Rules.{exchanged_by}

-- the rule has a place there, and these are the findings about the upper and the lower operator
pub record IsFoundAt (p : ProgramData) (plan : PlanTree) (at : ℕ) (rule : Rule) (upper lower : Found) : Type 0 where
  pub place : IsPlace p plan at rule
  pub found : AreFound p (subtree_of at plan) (exchanged_by rule (subtree_of at plan)) upper lower

abbrev pub lines_at : ProgramData → PlanTree → ℕ → Rule → Found → Found → List Line
lines_at p plan at rule upper lower = lines p rule (subtree_of at plan) (exchanged_by rule (subtree_of at plan)) (uses_of upper) (uses_of lower)

abbrev pub shared_at : ProgramData → PlanTree → ℕ → Rule → Found → Found → List Line
shared_at p plan at rule upper lower = shared_lines p rule (subtree_of at plan) (exchanged_by rule (subtree_of at plan)) (uses_of upper) (uses_of lower)

-- The exchange is legal, with these findings.
pub record IsLegalFor (p : ProgramData) (plan : PlanTree) (at : ℕ) (rule : Rule) (upper lower : Found) : Type 0 where
  pub found : IsFoundAt p plan at rule upper lower
  pub passes : AllPass (lines_at p plan at rule upper lower)

abbrev pub IsLegal : ProgramData → PlanTree → ℕ → Rule → Type 0
IsLegal p plan at rule = (upper : Found) × (lower : Found) × IsLegalFor p plan at rule upper lower

-- the condition describes the legal exchange by the rule at the operator
pub record IsConditionOf (p : ProgramData) (plan : PlanTree) (at : ℕ) (rule : Rule) (c : Condition) : Type 0 where
  pub same_rule : c.rule ≡ rule
  pub place : c.at ≡ at
  pub legal : IsLegalFor p plan at rule c.upper c.lower

-- The rule has no place there, or one of these conditions is the first to fail.
abbrev pub IsRefusedBy : (Found → Found → List Line) → ProgramData → PlanTree → ℕ → Rule → NotLegal → Type 0
IsRefusedBy conditions p plan at rule why = ((IsPlace p plan at rule → ⊥) × (why ≡ NoPlace))
    ⊎ ((upper : Found) × (lower : Found) × IsFoundAt p plan at rule upper lower × FirstFails (conditions upper lower) why)

abbrev pub IsRefusal : ProgramData → PlanTree → ℕ → Rule → NotLegal → Type 0
IsRefusal p plan at rule why = IsRefusedBy (lines_at p plan at rule) p plan at rule why

-- Over every input of the program the two plans allow the same bags.
abbrev pub KeepAnswers : ProgramData → PlanTree → PlanTree → Type 0
KeepAnswers p plan other = (inputs : List Bag) → AreInputsOf p inputs → AllowSame (plan_ops p inputs) plan other
