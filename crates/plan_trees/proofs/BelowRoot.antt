-- The trees below the root of a plan are plans.
use Rattle.std.proofs.Common.{◌<◌, ℕ}
use Rattle.plan_trees.specs.Distinct.{IsAbsent}
use Rattle.plan_trees.specs.Plans.{PlanTree, over, both, node_limit, nodes, IsPlan}
use Rattle.plan_trees.proofs.DifferentNumbers.{AreDifferent-parts}
use Rattle.pact_record.proofs.Lists.{AllByRecursion-left, AllByRecursion-right}

pub over_plan : (n : ℕ) (t : PlanTree) → n < node_limit → IsAbsent n (nodes t) → IsPlan t → IsPlan (over n t)
over_plan n t below absent h = record { below = (below, h.below); different = (absent, h.different) }

pub input_plan : (n : ℕ) (t : PlanTree) → IsPlan (over n t) → IsPlan t
input_plan n t h = record { below = h.below.1; different = h.different.1 }

pub left_plan : (n : ℕ) (t u : PlanTree) → IsPlan (both n t u) → IsPlan t
left_plan n t u h = record {
  below = AllByRecursion-left (λ k. k < node_limit) (nodes t) (nodes u) h.below.1;
  different = (AreDifferent-parts (nodes t) (nodes u) h.different.1).0;
}

pub right_plan : (n : ℕ) (t u : PlanTree) → IsPlan (both n t u) → IsPlan u
right_plan n t u h = record {
  below = AllByRecursion-right (λ k. k < node_limit) (nodes t) (nodes u) h.below.1;
  different = (AreDifferent-parts (nodes t) (nodes u) h.different.1).1;
}
