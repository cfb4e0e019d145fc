-- A tree has a number exactly if it is one of the numbers of its nodes.
use Rattle.std.proofs.Common.{◌≡◌, ◌==◌, ◌||◌, inl, inr, ℕ, true, refl, arith}
use Rattle.std.proofs.lemmas.Bool.{eqb-true, or_cases, or_left, or_right, eq-eqb}
use Rattle.plan_trees.specs.Plans.{PlanTree, leaf, over, both, root_of, nodes, has}
use Rattle.plan_trees.proofs.DifferentNumbers.{IsIn, IsIn-left, IsIn-parts, IsIn-right}

pub root-nodes : (t : PlanTree) → IsIn (root_of t) (nodes t)
root-nodes (leaf n) = inl refl
root-nodes (over n t) = inl refl
root-nodes (both n t u) = inl refl

pub nodes-has : (n : ℕ) (t : PlanTree) → has n t ≡ true → IsIn n (nodes t)
nodes-has n (leaf m) h = inl (eqb-true n m h)
nodes-has n (over m t) h = elim (or_cases (n == m) (has n t) h) as (λ _. IsIn n (nodes (over m t))) [
  | inl e ↦ inl (eqb-true n m e)
  | inr below ↦ inr (nodes-has n t below)
]
nodes-has n (both m t u) h = elim (or_cases (n == m) (has n t || has n u) h) as (λ _. IsIn n (nodes (both m t u))) [
  | inl e ↦ inl (eqb-true n m e)
  | inr below ↦ elim (or_cases (has n t) (has n u) below) as (λ _. IsIn n (nodes (both m t u))) [
    | inl left ↦ inr (IsIn-left n (nodes t) (nodes u) (nodes-has n t left))
    | inr right ↦ inr (IsIn-right n (nodes t) (nodes u) (nodes-has n u right))
  ]
]

pub has-nodes : (m : ℕ) (t : PlanTree) → IsIn m (nodes t) → has m t ≡ true
has-nodes m (leaf n) (inl e) = rw e (eq-eqb n n refl)
has-nodes m (leaf n) (inr i) = absurd i
has-nodes m (over n t) (inl e) = rw e (grind arith)
has-nodes m (over n t) (inr i) = or_right (m == n) (has m t) (has-nodes m t i)
has-nodes m (both n t u) (inl e) = rw e (grind arith)
has-nodes m (both n t u) (inr i) = elim (IsIn-parts m (nodes t) (nodes u) i) as (λ _. has m (both n t u) ≡ true) [
  | inl k ↦ or_right (m == n) (has m t || has m u) (or_left (has m t) (has m u) (has-nodes m t k))
  | inr k ↦ or_right (m == n) (has m t || has m u) (or_right (has m t) (has m u) (has-nodes m u k))
]
