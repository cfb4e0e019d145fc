-- The number at the root of a plan occurs nowhere below it, and its two inputs share no number.
use Rattle.std.proofs.Common.{◌≡◌, ◌<◌, ◌==◌, ◌||◌, ℕ, true}
use Rattle.std.proofs.lemmas.Bool.{or_left, or_right}
use Rattle.plan_trees.specs.Plans.{PlanTree, over, both, root_of, nodes, has, IsPlan, node_limit}
use Rattle.plan_trees.proofs.BelowRoot.{input_plan, left_plan, right_plan}
use Rattle.plan_trees.proofs.DifferentNumbers.{AreDifferent-parts, IsAbsent-not, IsIn-left, IsIn-right}
use Rattle.plan_trees.proofs.NodesOfTrees.{nodes-has}
use Rattle.plan_trees.proofs.Ships.{below_limit}
use Rattle.plan_trees.proofs.SubtreesOfPlans.{has-root}

pub record IsAboveOne (n : ℕ) (t : PlanTree) : Type 0 where
  pub input : IsPlan t
  pub root : has n t ≡ true → ⊥
  pub below : root_of t < node_limit
  pub whole : (k : ℕ) → has k t ≡ true → has k (over n t) ≡ true

pub above_one : (n : ℕ) (t : PlanTree) → IsPlan (over n t) → IsAboveOne n t
above_one n t h = record {
  input = input_plan n t h;
  root = λ e. IsAbsent-not n (nodes t) h.different.0 (nodes-has n t e);
  below = below_limit (root_of t) t (input_plan n t h) (has-root t);
  whole = λ k e. or_right (k == n) (has k t) e;
}

pub record IsAboveTwo (n : ℕ) (t u : PlanTree) : Type 0 where
  pub left : IsPlan t
  pub right : IsPlan u
  pub left_root : has n t ≡ true → ⊥
  pub right_root : has n u ≡ true → ⊥
  pub apart : (k : ℕ) → has k t ≡ true → has k u ≡ true → ⊥
  pub left_below : root_of t < node_limit
  pub right_below : root_of u < node_limit
  pub left_whole : (k : ℕ) → has k t ≡ true → has k (both n t u) ≡ true
  pub right_whole : (k : ℕ) → has k u ≡ true → has k (both n t u) ≡ true

pub above_two : (n : ℕ) (t u : PlanTree) → IsPlan (both n t u) → IsAboveTwo n t u
above_two n t u h =
    let parts = AreDifferent-parts (nodes t) (nodes u) h.different.1 in record {
      left = left_plan n t u h;
      right = right_plan n t u h;
      left_root = λ e. IsAbsent-not n _ h.different.0 (IsIn-left n (nodes t) (nodes u) (nodes-has n t e));
      right_root = λ e. IsAbsent-not n _ h.different.0 (IsIn-right n (nodes t) (nodes u) (nodes-has n u e));
      apart = λ k e d. parts.2 k (nodes-has k t e) (nodes-has k u d);
      left_below = below_limit (root_of t) t (left_plan n t u h) (has-root t);
      right_below = below_limit (root_of u) u (right_plan n t u h) (has-root u);
      left_whole = λ k e. or_right (k == n) (has k t || has k u) (or_left (has k t) (has k u) e);
      right_whole = λ k e. or_right (k == n) (has k t || has k u) (or_right (has k t) (has k u) e);
    }
