-- The subtree at a number of a tree has it as its root, and if a tree's numbers are different, those of its subtrees
-- are.
use Rattle.std.proofs.Common.{◌≡◌, ◌==◌, inl, inr, ℕ, true, refl, sym}
use Rattle.std.proofs.lemmas.Bool.{cases_Bool, eqb-true, eq-eqb}
use Rattle.plan_trees.specs.Distinct.{AreDifferent}
use Rattle.plan_trees.specs.Plans.{PlanTree, leaf, over, both, has, nodes, root_of, subtree_of}
use Rattle.plan_trees.proofs.DifferentNumbers.{AreDifferent-parts}
use Rattle.plan_trees.proofs.InPlace.{GoesDown, down}
use Rattle.plan_trees.proofs.NodesOfTrees.{has-nodes, root-nodes}

pub subtree_of-root : (t : PlanTree) → subtree_of (root_of t) t ≡ t
subtree_of-root (leaf n) = refl
subtree_of-root (over n t) = rw (eq-eqb n n refl) refl
subtree_of-root (both n t u) = rw (eq-eqb n n refl) refl

pub has-root : (t : PlanTree) → has (root_of t) t ≡ true
has-root t = has-nodes (root_of t) t (root-nodes t)

pub root_of-subtree : (at : ℕ) (t : PlanTree) → has at t ≡ true → root_of (subtree_of at t) ≡ at
root_of-subtree at (leaf n) h = sym (eqb-true at n h)
root_of-subtree at (over n t) h = elim (cases_Bool (at == n)) as (λ _. root_of (subtree_of at (over n t)) ≡ at) [
  | inl e ↦ rw e (sym (eqb-true at n e))
  | inr e ↦ rw e (root_of-subtree at t (simp e at h))
]
root_of-subtree at (both n t u) h = elim (cases_Bool (at == n)) as (λ _. root_of (subtree_of at (both n t u)) ≡ at) [
  | inl e ↦ rw e (sym (eqb-true at n e))
  | inr e ↦ elim (cases_Bool (has at t)) as (λ _. root_of (subtree_of at (both n t u)) ≡ at) [
    | inl l ↦ rw (e, l) (root_of-subtree at t l)
    | inr l ↦ rw (e, l) (root_of-subtree at u (simp (e, l) at h))
  ]
]

-- ---- different numbers

pub different_down : GoesDown (λ t. AreDifferent (nodes t))
different_down = record {
  of_one = λ n t h. h.1;
  of_left = λ n t u h. (AreDifferent-parts (nodes t) (nodes u) h.1).0;
  of_right = λ n t u h. (AreDifferent-parts (nodes t) (nodes u) h.1).1;
}

pub subtree_of-AreDifferent : (at : ℕ) (t : PlanTree) → AreDifferent (nodes t) → AreDifferent (nodes (subtree_of at t))
subtree_of-AreDifferent at t h = down (λ u. AreDifferent (nodes u)) different_down at t h
