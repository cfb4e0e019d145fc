-- What holds for the subtree at each number of a plan holds for all its subtrees.
use Rattle.std.proofs.Common.{◌≡◌, ◌++◌, ◌||◌, ◌==◌, inl, inr, ℕ, true, false, List, refl, subst}
use Rattle.std.proofs.lemmas.Bool.{cases_Bool, eq-eqb, false_from_ne_true, ne_eqb, or_left, or_right}
use Rattle.plan_trees.specs.Distinct.{AreDifferent, IsAbsent}
use Rattle.plan_trees.specs.Plans.{PlanTree, leaf, over, both, has, nodes, subtree_of}
use Rattle.plan_trees.proofs.DifferentNumbers.{AreDifferent-parts, IsAbsent-not, IsIn, IsIn-left, IsIn-right}
use Rattle.plan_trees.proofs.NodesOfTrees.{nodes-has}

-- a fact holds for a tree and for all trees below it
abbrev pub AllBelow : (PlanTree → Type 0) → PlanTree → Type 0
AllBelow P (leaf n) = P (leaf n)
AllBelow P (over n t) = P (over n t) × AllBelow P t
AllBelow P (both n t u) = P (both n t u) × AllBelow P t × AllBelow P u

pub other_than : (n m : ℕ) (ms : List ℕ) → IsAbsent n ms → IsIn m ms → (m == n) ≡ false
other_than n m ms a i = ne_eqb m n (λ e. IsAbsent-not n ms a (subst (λ (k : ℕ). IsIn k ms) e i))

-- what holds for each subtree that a number of the tree names
pub all_below : (P : PlanTree → Type 0) (t : PlanTree) → AreDifferent (nodes t) → ((m : ℕ) → has m t ≡ true → P (subtree_of m t)) → AllBelow P t
all_below P (leaf n) d h = h n (eq-eqb n n refl)
all_below P (over n t) d h =
    let self = eq-eqb n n refl in
    let here : subtree_of n (over n t) ≡ over n t = rw self refl in (
      subst P here (h n (or_left (n == n) (has n t) self)),
      all_below P t d.1 (λ m there.
          let other = other_than n m (nodes t) d.0 (nodes-has m t there) in
          let below : subtree_of m (over n t) ≡ subtree_of m t = rw other refl in
          subst P below (h m (or_right (m == n) (has m t) there))),
    )
all_below P (both n t u) d h =
    let self = eq-eqb n n refl in
    let here : subtree_of n (both n t u) ≡ both n t u = rw self refl in
    let parts = AreDifferent-parts (nodes t) (nodes u) d.1 in (
      subst P here (h n (or_left (n == n) (has n t || has n u) self)),
      all_below P t parts.0 (λ m there.
          let other = other_than n m (nodes t ++ nodes u) d.0 (IsIn-left m (nodes t) (nodes u) (nodes-has m t there)) in
          let below : subtree_of m (both n t u) ≡ subtree_of m t = rw (other, there) refl in
          subst P below (h m (or_right (m == n) (has m t || has m u) (or_left (has m t) (has m u) there)))),
      all_below P u parts.1 (λ m there.
          let other = other_than n m (nodes t ++ nodes u) d.0 (IsIn-right m (nodes t) (nodes u) (nodes-has m u there)) in
          let elsewhere = false_from_ne_true (has m t) (λ (left : has m t ≡ true). parts.2 m (nodes-has m t left) (nodes-has m u there)) in
          let below : subtree_of m (both n t u) ≡ subtree_of m u = rw (other, elsewhere) refl in
          subst P below (h m (or_right (m == n) (has m t || has m u) (or_right (has m t) (has m u) there)))),
    )

-- it holds for the tree itself
abbrev pub all_below-root : (P : PlanTree → Type 0) (t : PlanTree) → AllBelow P t → P t
all_below-root P (leaf n) h = h
all_below-root P (over n t) h = h.0
all_below-root P (both n t u) h = h.0

-- and for the subtree at a number
pub all_below-at : (P : PlanTree → Type 0) (at : ℕ) (t : PlanTree) → AllBelow P t → has at t ≡ true → P (subtree_of at t)
all_below-at P at (leaf n) h there = h
all_below-at P at (over n t) h there = elim (cases_Bool (at == n)) as (λ _. P (subtree_of at (over n t))) [
  | inl e ↦ rw e h.0
  | inr e ↦ rw e (all_below-at P at t h.1 (simp e at there))
]
all_below-at P at (both n t u) h there = elim (cases_Bool (at == n)) as (λ _. P (subtree_of at (both n t u))) [
  | inl e ↦ rw e h.0
  | inr e ↦ elim (cases_Bool (has at t)) as (λ _. P (subtree_of at (both n t u))) [
    | inl l ↦ rw (e, l) (all_below-at P at t h.1 l)
    | inr l ↦ rw (e, l) (all_below-at P at u h.2 (simp (e, l) at there))
  ]
]
