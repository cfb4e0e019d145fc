-- What is known of the operators of plans, as a list of tables in the order of the plans.
use Rattle.std.specs.Prelude.{◌≡◌, ℕ, List, Some, length, slice_get}
use Rattle.plan_trees.specs.Plans.{PlanTree}
use Rattle.pact_operators.specs.Programs.{ProgramData}
use Rattle.ship_strategy.specs.PlanFacts.{facts_of}
use Rattle.ship_strategy.specs.Views.{facts_in}
use Rattle.ship_strategy.specs.declared.tables.Table.{Table}

-- each table has what is known in the plan at its place
abbrev pub AreTablesOf : ProgramData → List PlanTree → List Table → Type 0
AreTablesOf p plans tables = (n : ℕ) (t : PlanTree) (x : Table) → slice_get plans n ≡ Some t → slice_get tables n ≡ Some x → facts_in x ≡ facts_of p t

-- and each plan has a table
pub record AreKnownPlans (p : ProgramData) (plans : List PlanTree) (tables : List Table) : Type 0 where
  pub all : length tables ≡ length plans
  pub facts : AreTablesOf p plans tables
