-- Tables of a plan.
use Rattle.std.specs.Prelude.{◌≡◌, ℕ, Bool, false, if◌then◌else◌, List, Option, None, get_or}
use Rattle.plan_trees.specs.Plans.{PlanTree, has, input_of}
use Rattle.flow_instance.specs.Worlds.{reader_of}

-- what an operator of the plan reads at a port; nothing if the plan doesn't have the operator
abbrev pub input_in : PlanTree → (at port : ℕ) → Option ℕ
input_in tree at port = if has at tree then input_of at port tree else None

-- The tables say which numbers the plan has, who reads each edge, and what each operator reads at its two ports.
pub record ArePlanTables (tree : PlanTree) (nodes : List Bool) (readers : List (Option (ℕ × ℕ))) (lefts rights : List (Option ℕ)) : Type 0 where
  pub have : (at : ℕ) → get_or nodes at false ≡ has at tree
  pub read : (edge : ℕ) → get_or readers edge None ≡ reader_of edge tree
  pub left : (at : ℕ) → get_or lefts at None ≡ input_in tree at 0
  pub right : (at : ℕ) → get_or rights at None ≡ input_in tree at 1
