-- The tree that follows what sources and operators read.
use Rattle.std.specs.Prelude.{◌≡◌, ◌≤◌, ℕ, List}
use Rattle.program_check.specs.declared.written_plans.Reads.{Reads}
use Rattle.program_check.specs.declared.written_plans.Reads.TheVariants.{Nothing, One, Two}
use Rattle.plan_trees.specs.Plans.{PlanTree, IsPlan, root_of}
use Rattle.plan_trees.specs.Preorders.{count_of}
use Rattle.pact_operators.specs.Programs.{Follows}
use Rattle.pact_operators.specs.Resolved.{Inputs, no_input, one_input, two_inputs}

abbrev pub inputs_as : Reads → Inputs
inputs_as Nothing = no_input
inputs_as (One at) = one_input at
inputs_as (Two left right) = two_inputs left right

-- A plan of at most `count` nodes follows the inputs, and its root has the number `at`.
pub record IsPlannedFrom (inputs : List Inputs) (at count : ℕ) : Type 0 where
  pub tree : PlanTree
  pub follows : Follows inputs tree
  pub root : root_of tree ≡ at
  pub plan : IsPlan tree
  pub few : count_of tree ≤ count
