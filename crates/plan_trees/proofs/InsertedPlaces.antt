-- Which numbers a tree with a further number on an edge has, and that it is the tree with one subtree replaced.
use Rattle.std.proofs.Common.{◌≡◌, ◌≢◌, ◌==◌, ◌||◌, ℕ, Bool, true, false, inl, inr, if◌then◌else◌, ◌∷◌, ◌++◌, refl, sym, ap, subst, ◌∙◌}
use Rattle.std.proofs.lemmas.Bool.{cases_Bool, or_cases, or_left, or_right, eq-eqb, ne_eqb, eqb-true, false_from_ne_true, both_ways}
use Rattle.plan_trees.specs.Distinct.{AreDifferent}
use Rattle.plan_trees.specs.Inserted.{wrapped, inserted}
use Rattle.plan_trees.specs.Plans.{PlanTree, leaf, over, both, has, nodes, replaced, root_of, subtree_of}
use Rattle.plan_trees.proofs.DifferentNumbers.{IsIn, IsIn-left, IsIn-right, IsAbsent-not, AreDifferent-parts}
use Rattle.plan_trees.proofs.InsertedTrees.{in_inserted}
use Rattle.plan_trees.proofs.NodesOfTrees.{nodes-has, has-nodes}

-- the tree without anything inserted above its own root
abbrev pub core : (below new : ℕ) → PlanTree → PlanTree
core below new (leaf n) = leaf n
core below new (over n t) = over n (inserted below new t)
core below new (both n t u) = both n (inserted below new t) (inserted below new u)

pub inserted-core : (below new : ℕ) (t : PlanTree) → inserted below new t ≡ wrapped below new (root_of t) (core below new t)
inserted-core below new (leaf n) = refl
inserted-core below new (over n t) = refl
inserted-core below new (both n t u) = refl

pub root-core : (below new : ℕ) (t : PlanTree) → root_of (core below new t) ≡ root_of t
root-core below new (leaf n) = refl
root-core below new (over n t) = refl
root-core below new (both n t u) = refl

pub wrapped-not : (below new n : ℕ) (t : PlanTree) → n ≢ below → wrapped below new n t ≡ t
wrapped-not below new n t ne = at (below == n) (ne_eqb below n (λ e. ne (sym e))) where
  at : (b : Bool) → b ≡ false → (if b then over new t else t) ≡ t
  at true e = cc
  at false e = refl

pub wrapped-so : (below new n : ℕ) (t : PlanTree) → n ≡ below → wrapped below new n t ≡ over new t
wrapped-so below new n t is = at (below == n) (eq-eqb below n (sym is)) where
  at : (b : Bool) → b ≡ true → (if b then over new t else t) ≡ over new t
  at true e = refl
  at false e = cc

pub root-inserted : (below new : ℕ) (t : PlanTree) → root_of t ≢ below → root_of (inserted below new t) ≡ root_of t
root-inserted below new t ne = ap root_of (inserted-core below new t ∙ wrapped-not below new (root_of t) (core below new t) ne) ∙ root-core below new t

has-wrapped : (at below new n : ℕ) (t : PlanTree) → has at t ≡ true → has at (wrapped below new n t) ≡ true
has-wrapped at below new n t h = by (below == n) where
  by : (b : Bool) → has at (if b then over new t else t) ≡ true
  by true = or_right (at == new) (has at t) h
  by false = h

pub has-inserted : (at below new : ℕ) (t : PlanTree) → has at t ≡ true → has at (inserted below new t) ≡ true
has-inserted at below new (leaf n) h = has-wrapped at below new n (leaf n) h
has-inserted at below new (over n t) h = has-wrapped at below new n (over n (inserted below new t)) (elim (or_cases (at == n) (has at t) h) as (λ _. (at == n || has at (inserted below new t)) ≡ true) [
  | inl e ↦ or_left (at == n) (has at (inserted below new t)) e
  | inr e ↦ or_right (at == n) (has at (inserted below new t)) (has-inserted at below new t e)
])
has-inserted at below new (both n t u) h =
    let T = inserted below new t in
    let U = inserted below new u in
    has-wrapped at below new n (both n T U) (elim (or_cases (at == n) (has at t || has at u) h) as (λ _. (at == n || (has at T || has at U)) ≡ true) [
      | inl e ↦ or_left (at == n) (has at T || has at U) e
      | inr e ↦ or_right (at == n) (has at T || has at U) (elim (or_cases (has at t) (has at u) e) as (λ _. (has at T || has at U) ≡ true) [
        | inl l ↦ or_left (has at T) (has at U) (has-inserted at below new t l)
        | inr r ↦ or_right (has at T) (has at U) (has-inserted at below new u r)
      ])
    ])

-- ---- a number that isn't there

pub not_inserted : (below new : ℕ) (t : PlanTree) → (IsIn below (nodes t) → ⊥) → inserted below new t ≡ t
not_inserted below new (leaf n) h = wrapped-not below new n (leaf n) (λ e. h (inl (sym e)))
not_inserted below new (over n t) h =
    wrapped-not below new n (over n (inserted below new t)) (λ e. h (inl (sym e))) ∙ ap (λ (x : PlanTree). over n x) (not_inserted below new t (λ i. h (inr i)))
not_inserted below new (both n t u) h =
    let left : inserted below new t ≡ t = not_inserted below new t (λ i. h (inr (IsIn-left below (nodes t) (nodes u) i))) in
    let right : inserted below new u ≡ u = not_inserted below new u (λ i. h (inr (IsIn-right below (nodes t) (nodes u) i))) in
    wrapped-not below new n (both n (inserted below new t) (inserted below new u)) (λ e. h (inl (sym e))) ∙ (λ i. both n (left i) (right i))

-- ---- as a tree with one subtree replaced

pub replaced-by : (below new : ℕ) (s t : PlanTree) → AreDifferent (nodes t) → has below t ≡ true → s ≡ subtree_of below t → replaced below (over new s) t ≡ inserted below new t
replaced-by below new s (leaf n) d h q = rw h (ap (λ (x : PlanTree). over new x) q)
replaced-by below new s (over n t) d h q = elim (cases_Bool (below == n)) as (λ _. replaced below (over new s) (over n t) ≡ inserted below new (over n t)) [
  | inl e ↦
      let same : inserted below new t ≡ t = not_inserted below new t (λ i. IsAbsent-not n (nodes t) d.0 (subst (λ (k : ℕ). IsIn k (nodes t)) (eqb-true below n e) i)) in
      let is : s ≡ over n t = simp e at q in
      rw e (ap (λ (x : PlanTree). over new x) (is ∙ ap (λ (x : PlanTree). over n x) (sym same)))
  | inr e ↦ rw e (ap (λ (x : PlanTree). over n x) (replaced-by below new s t d.1 (simp e at h) (simp e at q)))
]
replaced-by below new s (both n t u) d h q =
    let parts = AreDifferent-parts (nodes t) (nodes u) d.1 in
    elim (cases_Bool (below == n)) as (λ _. replaced below (over new s) (both n t u) ≡ inserted below new (both n t u)) [
      | inl e ↦
          let out = λ (i : IsIn below (nodes t ++ nodes u)). IsAbsent-not n (nodes t ++ nodes u) d.0 (subst (λ (k : ℕ). IsIn k (nodes t ++ nodes u)) (eqb-true below n e) i) in
          let left : inserted below new t ≡ t = not_inserted below new t (λ i. out (IsIn-left below (nodes t) (nodes u) i)) in
          let right : inserted below new u ≡ u = not_inserted below new u (λ i. out (IsIn-right below (nodes t) (nodes u) i)) in
          let is : s ≡ both n t u = simp e at q in
          rw e (ap (λ (x : PlanTree). over new x) (is ∙ (λ i. both n (sym left i) (sym right i))))
      | inr e ↦ elim (cases_Bool (has below t)) as (λ _. replaced below (over new s) (both n t u) ≡ inserted below new (both n t u)) [
        | inl l ↦
            let right : inserted below new u ≡ u = not_inserted below new u (λ i. parts.2 below (nodes-has below t l) i) in
            let left = replaced-by below new s t parts.0 l (simp (e, l) at q) in
            rw (e, l) (λ i. both n (left i) (sym right i))
        | inr l ↦
            let left : inserted below new t ≡ t = not_inserted below new t (λ i. both_ways (has below t) l (has-nodes below t i)) in
            let right = replaced-by below new s u parts.1 (simp (e, l) at h) (simp (e, l) at q) in
            rw (e, l) (λ i. both n (sym left i) (right i))
      ]
    ]

pub replaced-inserted : (below new : ℕ) (t : PlanTree) → AreDifferent (nodes t) → has below t ≡ true → replaced below (over new (subtree_of below t)) t ≡ inserted below new t
replaced-inserted below new t d h = replaced-by below new (subtree_of below t) t d h refl

-- ---- the subtree at a number that was there before

subtree-wrapped : (below new at n : ℕ) (t : PlanTree) → at ≢ new → subtree_of at (wrapped below new n t) ≡ subtree_of at t
subtree-wrapped below new at n t ne = by (below == n) where
  by : (b : Bool) → subtree_of at (if b then over new t else t) ≡ subtree_of at t
  by true = rw (ne_eqb at new ne) refl
  by false = refl

pub subtree-inserted : (below new at : ℕ) (t : PlanTree) → AreDifferent (nodes t) → (IsIn new (nodes t) → ⊥) → has at t ≡ true → subtree_of at (inserted below new t) ≡ core below new (subtree_of at t)
subtree-inserted below new at (leaf n) d out h = subtree-wrapped below new at n (leaf n) (λ e. out (inl (sym e ∙ eqb-true at n h)))
subtree-inserted below new at (over n t) d out h =
    subtree-wrapped below new at n (over n (inserted below new t)) (λ e. out (subst (λ (k : ℕ). IsIn k (n ∷ nodes t)) e (nodes-has at (over n t) h))) ∙
    elim (cases_Bool (at == n)) as (λ _. subtree_of at (over n (inserted below new t)) ≡ core below new (subtree_of at (over n t))) [
      | inl e ↦ rw e refl
      | inr e ↦ rw e (subtree-inserted below new at t d.1 (λ i. out (inr i)) (simp e at h))
    ]
subtree-inserted below new at (both n t u) d out h =
    let T = inserted below new t in
    let U = inserted below new u in
    let parts = AreDifferent-parts (nodes t) (nodes u) d.1 in
    let other : at ≢ new = λ e. out (subst (λ (k : ℕ). IsIn k (n ∷ (nodes t ++ nodes u))) e (nodes-has at (both n t u) h)) in
    subtree-wrapped below new at n (both n T U) other ∙
    elim (cases_Bool (at == n)) as (λ _. subtree_of at (both n T U) ≡ core below new (subtree_of at (both n t u))) [
      | inl e ↦ rw e refl
      | inr e ↦ elim (cases_Bool (has at t)) as (λ _. subtree_of at (both n T U) ≡ core below new (subtree_of at (both n t u))) [
        | inl l ↦
            let l2 = has-inserted at below new t l in
            rw (e, l, l2) (subtree-inserted below new at t parts.0 (λ i. out (inr (IsIn-left new (nodes t) (nodes u) i))) l)
        | inr l ↦
            let l2 : has at T ≡ false = false_from_ne_true (has at T) (λ q. elim (in_inserted below new at t (nodes-has at T q)) as (λ _. ⊥) [
              | inl i ↦ both_ways (has at t) l (has-nodes at t i)
              | inr i ↦ other i.0
            ]) in
            rw (e, l, l2) (subtree-inserted below new at u parts.1 (λ i. out (inr (IsIn-right new (nodes t) (nodes u) i))) (simp (e, l) at h))
      ]
    ]
