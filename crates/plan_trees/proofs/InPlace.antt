-- What holds for a subtree and another tree in its place holds for the whole trees, and what a tree's inputs inherit
-- its subtrees inherit.
use Rattle.std.proofs.Common.{◌≡◌, ◌==◌, inl, inr, ℕ, true}
use Rattle.std.proofs.lemmas.Bool.{cases_Bool}
use Rattle.plan_trees.specs.Plans.{PlanTree, leaf, over, both, has, subtree_of, replaced}

-- a relation of two trees that every tree has to itself, and that operators above the trees preserve
pub record IsKept (M : PlanTree → PlanTree → Type 0) : Type 0 where
  pub self : (t : PlanTree) → M t t
  pub under_one : (n : ℕ) (t u : PlanTree) → M t u → M (over n t) (over n u)
  pub under_two : (n : ℕ) (t u v w : PlanTree) → M t v → M u w → M (both n t u) (both n v w)

pub in_place : (M : PlanTree → PlanTree → Type 0) → IsKept M → (at : ℕ) (new t : PlanTree) → has at t ≡ true → M (subtree_of at t) new → M t (replaced at new t)
in_place M k at new (leaf n) h m = elim (cases_Bool (at == n)) as (λ _. M (leaf n) (replaced at new (leaf n))) [
  | inl e ↦ rw e m
  | inr e ↦ rw e (k.self (leaf n))
]
in_place M k at new (over n t) h m = elim (cases_Bool (at == n)) as (λ _. M (over n t) (replaced at new (over n t))) [
  | inl e ↦ rw e (simp e at m)
  | inr e ↦ rw e (k.under_one n t (replaced at new t) (in_place M k at new t (simp e at h) (simp e at m)))
]
in_place M k at new (both n t u) h m = elim (cases_Bool (at == n)) as (λ _. M (both n t u) (replaced at new (both n t u))) [
  | inl e ↦ rw e (simp e at m)
  | inr e ↦ elim (cases_Bool (has at t)) as (λ _. M (both n t u) (replaced at new (both n t u))) [
    | inl l ↦ rw (e, l) (k.under_two n t u (replaced at new t) u (in_place M k at new t l (simp (e, l) at m)) (k.self u))
    | inr l ↦ rw (e, l) (k.under_two n t u t (replaced at new u) (k.self t) (in_place M k at new u (simp (e, l) at h) (simp (e, l) at m)))
  ]
]

-- a fact about a tree that its inputs inherit
pub record GoesDown (P : PlanTree → Type 0) : Type 0 where
  pub of_one : (n : ℕ) (t : PlanTree) → P (over n t) → P t
  pub of_left : (n : ℕ) (t u : PlanTree) → P (both n t u) → P t
  pub of_right : (n : ℕ) (t u : PlanTree) → P (both n t u) → P u

pub down : (P : PlanTree → Type 0) → GoesDown P → (at : ℕ) (t : PlanTree) → P t → P (subtree_of at t)
down P d at (leaf n) h = h
down P d at (over n t) h = elim (cases_Bool (at == n)) as (λ _. P (subtree_of at (over n t))) [
  | inl e ↦ rw e h
  | inr e ↦ rw e (down P d at t (d.of_one n t h))
]
down P d at (both n t u) h = elim (cases_Bool (at == n)) as (λ _. P (subtree_of at (both n t u))) [
  | inl e ↦ rw e h
  | inr e ↦ elim (cases_Bool (has at t)) as (λ _. P (subtree_of at (both n t u))) [
    | inl l ↦ rw (e, l) (down P d at t (d.of_left n t u h))
    | inr l ↦ rw (e, l) (down P d at u (d.of_right n t u h))
  ]
]
