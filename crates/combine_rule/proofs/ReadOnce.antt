-- In a plan with different numbers each number is read once. A tree in which a further number is inserted still has
-- different numbers.
use Rattle.std.proofs.Common.{◌≡◌, ◌≢◌, ◌==◌, ◌||◌, ℕ, Bool, true, false, inl, inr, if◌then◌else◌, ◌++◌, refl, sym, ap, subst, ◌∙◌}
use Rattle.std.proofs.lemmas.Bool.{cases_Bool, both_ways, false_from_ne_true, or_parts, eq-eqb, eqb-true, eqb-false, ne_eqb}
use Rattle.plan_trees.specs.Distinct.{AreDifferent}
use Rattle.plan_trees.specs.Plans.{PlanTree, leaf, over, both, has, nodes, root_of, subtree_of}
use Rattle.plan_trees.proofs.DifferentNumbers.{IsIn, IsIn-left, IsIn-right, IsAbsent-not, AreDifferent-parts}
use Rattle.plan_trees.proofs.NodesOfTrees.{root-nodes, nodes-has, has-nodes}
use Rattle.combine_rule.specs.Combined.{IsReadBy}

-- ---- read once

input_of_over : PlanTree → PlanTree
input_of_over (leaf n) = leaf n
input_of_over (over n t) = t
input_of_over (both n t u) = t

pub over_same : (n m : ℕ) (t u : PlanTree) → over n t ≡ over m u → t ≡ u
unfolding input_of_over
over_same n m t u e = ap input_of_over e

module _ (below at : ℕ) where
  not_at : (n : ℕ) (t : PlanTree) → has at t ≡ false → has n t ≡ true → n ≢ at
  not_at n t h g e = both_ways (has at t) h (subst (λ (k : ℕ). has k t ≡ true) e g)

  -- a tree without the Reduce, in which the number is at the root or nowhere
  elsewhere : (t : PlanTree) → AreDifferent (nodes t) → has at t ≡ false → (IsIn below (nodes t) → root_of t ≡ below) → IsReadBy below at t
  elsewhere (leaf n) d h top = not_at n (leaf n) h (eq-eqb n n refl)
  elsewhere (over n t) d h top =
      let parts = or_parts (at == n) (has at t) h in
      let none = λ (i : IsIn below (nodes t)). IsAbsent-not n (nodes t) d.0 (subst (λ (k : ℕ). IsIn k (nodes t)) (sym (top (inr i))) i) in (
        (λ e. absurd (none (subst (λ (k : ℕ). IsIn k (nodes t)) e (root-nodes t)))),
        (λ e. absurd (eqb-false at n parts.0 (sym e))),
        elsewhere t d.1 parts.1 (λ i. absurd (none i)),
      )
  elsewhere (both n t u) d h top =
      let parts = or_parts (at == n) (has at t || has at u) h in
      let sides = or_parts (has at t) (has at u) parts.1 in
      let different = AreDifferent-parts (nodes t) (nodes u) d.1 in
      let none = λ (i : IsIn below (nodes t ++ nodes u)). IsAbsent-not n (nodes t ++ nodes u) d.0 (subst (λ (k : ℕ). IsIn k (nodes t ++ nodes u)) (sym (top (inr i))) i) in (
        (λ e. eqb-false at n parts.0 (sym e)),
        (λ e. none (IsIn-left below (nodes t) (nodes u) (subst (λ (k : ℕ). IsIn k (nodes t)) e (root-nodes t)))),
        (λ e. none (IsIn-right below (nodes t) (nodes u) (subst (λ (k : ℕ). IsIn k (nodes u)) e (root-nodes u)))),
        elsewhere t different.0 sides.0 (λ i. absurd (none (IsIn-left below (nodes t) (nodes u) i))),
        elsewhere u different.1 sides.1 (λ i. absurd (none (IsIn-right below (nodes t) (nodes u) i))),
      )

  -- if the Reduce is in a tree over the number, the number is in that tree, and not at its root
  module _ (input : PlanTree) (root : root_of input ≡ below) where
    leaf_no_over : (n m : ℕ) (t : PlanTree) → leaf n ≡ over m t → ⊥
    leaf_no_over n m t e = cc

    both_no_over : (n m : ℕ) (t u v : PlanTree) → both n t u ≡ over m v → ⊥
    both_no_over n m t u v e = cc

    in_part : (b : Bool) (x y : PlanTree) → b ≡ false → (if b then x else y) ≡ over at input → y ≡ over at input
    in_part true x y e h = cc
    in_part false x y e h = h

    in_first : (b : Bool) (x y : PlanTree) → b ≡ true → (if b then x else y) ≡ over at input → x ≡ over at input
    in_first true x y e h = h
    in_first false x y e h = cc

    rest_true : (b c : Bool) → b ≡ false → (b || c) ≡ true → c ≡ true
    rest_true true c e h = cc
    rest_true false c e h = h

    pub inside : (t : PlanTree) → has at t ≡ true → subtree_of at t ≡ over at input → IsIn below (nodes t)
    inside (leaf n) h r = absurd (leaf_no_over n at input r)
    inside (over n t) h r = elim (cases_Bool (at == n)) as (λ _. IsIn below (nodes (over n t))) [
      | inl e ↦ inr (subst (λ (k : ℕ). IsIn k (nodes t)) (ap root_of (over_same n at t input (in_first (at == n) (over n t) (subtree_of at t) e r)) ∙ root) (root-nodes t))
      | inr e ↦ inr (inside t (rest_true (at == n) (has at t) e h) (in_part (at == n) (over n t) (subtree_of at t) e r))
    ]
    inside (both n t u) h r = elim (cases_Bool (at == n)) as (λ _. IsIn below (nodes (both n t u))) [
      | inl e ↦ absurd (both_no_over n at t u input (in_first (at == n) (both n t u) (if has at t then subtree_of at t else subtree_of at u) e r))
      | inr e ↦
          let r2 = in_part (at == n) (both n t u) (if has at t then subtree_of at t else subtree_of at u) e r in
          let h2 = rest_true (at == n) (has at t || has at u) e h in
          elim (cases_Bool (has at t)) as (λ _. IsIn below (nodes (both n t u))) [
            | inl l ↦ inr (IsIn-left below (nodes t) (nodes u) (inside t l (in_first (has at t) (subtree_of at t) (subtree_of at u) l r2)))
            | inr l ↦ inr (IsIn-right below (nodes t) (nodes u) (inside u (rest_true (has at t) (has at u) l h2) (in_part (has at t) (subtree_of at t) (subtree_of at u) l r2)))
          ]
    ]

    pub not_root : (t : PlanTree) → AreDifferent (nodes t) → has at t ≡ true → subtree_of at t ≡ over at input → root_of t ≢ below
    not_root (leaf n) d h r e = leaf_no_over n at input r
    not_root (over n t) d h r e =
        let below_in : IsIn below (nodes t) = elim (cases_Bool (at == n)) as (λ _. IsIn below (nodes t)) [
          | inl z ↦ subst (λ (k : ℕ). IsIn k (nodes t)) (ap root_of (over_same n at t input (in_first (at == n) (over n t) (subtree_of at t) z r)) ∙ root) (root-nodes t)
          | inr z ↦ inside t (rest_true (at == n) (has at t) z h) (in_part (at == n) (over n t) (subtree_of at t) z r)
        ] in
        IsAbsent-not n (nodes t) d.0 (subst (λ (k : ℕ). IsIn k (nodes t)) (sym e) below_in)
    not_root (both n t u) d h r e = elim (cases_Bool (at == n)) as (λ _. ⊥) [
      | inl z ↦ both_no_over n at t u input (in_first (at == n) (both n t u) (if has at t then subtree_of at t else subtree_of at u) z r)
      | inr z ↦
          let r2 = in_part (at == n) (both n t u) (if has at t then subtree_of at t else subtree_of at u) z r in
          let h2 = rest_true (at == n) (has at t || has at u) z h in
          let below_in : IsIn below (nodes t ++ nodes u) = elim (cases_Bool (has at t)) as (λ _. IsIn below (nodes t ++ nodes u)) [
            | inl l ↦ IsIn-left below (nodes t) (nodes u) (inside t l (in_first (has at t) (subtree_of at t) (subtree_of at u) l r2))
            | inr l ↦ IsIn-right below (nodes t) (nodes u) (inside u (rest_true (has at t) (has at u) l h2) (in_part (has at t) (subtree_of at t) (subtree_of at u) l r2))
          ] in
          IsAbsent-not n (nodes t ++ nodes u) d.0 (subst (λ (k : ℕ). IsIn k (nodes t ++ nodes u)) (sym e) below_in)
    ]

    -- the Reduce is what reads it
    pub read_by : (t : PlanTree) → AreDifferent (nodes t) → has at t ≡ true → subtree_of at t ≡ over at input → IsReadBy below at t
    read_by (leaf n) d h r = absurd (leaf_no_over n at input r)
    read_by (over n t) d h r = elim (cases_Bool (at == n)) as (λ _. IsReadBy below at (over n t)) [
      | inl z ↦
          let is = eqb-true at n z in
          let same = over_same n at t input (in_first (at == n) (over n t) (subtree_of at t) z r) in
          let absent = false_from_ne_true (has at t) (λ g. IsAbsent-not n (nodes t) d.0 (subst (λ (k : ℕ). IsIn k (nodes t)) is (nodes-has at t g))) in
          ((λ e. sym is), (λ e. ap root_of same ∙ root), elsewhere t d.1 absent (λ i. ap root_of same ∙ root))
      | inr z ↦
          let h2 = rest_true (at == n) (has at t) z h in
          let r2 = in_part (at == n) (over n t) (subtree_of at t) z r in
          ((λ e. absurd (not_root t d.1 h2 r2 e)), (λ e. absurd (eqb-false at n z (sym e))), read_by t d.1 h2 r2)
    ]
    read_by (both n t u) d h r = elim (cases_Bool (at == n)) as (λ _. IsReadBy below at (both n t u)) [
      | inl z ↦ absurd (both_no_over n at t u input (in_first (at == n) (both n t u) (if has at t then subtree_of at t else subtree_of at u) z r))
      | inr z ↦
          let parts = AreDifferent-parts (nodes t) (nodes u) d.1 in
          let r2 = in_part (at == n) (both n t u) (if has at t then subtree_of at t else subtree_of at u) z r in
          let h2 = rest_true (at == n) (has at t || has at u) z h in
          elim (cases_Bool (has at t)) as (λ _. IsReadBy below at (both n t u)) [
            | inl l ↦
                let rt = in_first (has at t) (subtree_of at t) (subtree_of at u) l r2 in
                let here = inside t l rt in
                let no = λ (i : IsIn below (nodes u)). parts.2 below here i in
                let absent = false_from_ne_true (has at u) (λ g. parts.2 at (nodes-has at t l) (nodes-has at u g)) in
                ((λ e. eqb-false at n z (sym e)), not_root t parts.0 l rt, (λ e. no (subst (λ (k : ℕ). IsIn k (nodes u)) e (root-nodes u))), read_by t parts.0 l rt, elsewhere u parts.1 absent (λ i. absurd (no i)))
            | inr l ↦
                let hu = rest_true (has at t) (has at u) l h2 in
                let ru = in_part (has at t) (subtree_of at t) (subtree_of at u) l r2 in
                let here = inside u hu ru in
                let no = λ (i : IsIn below (nodes t)). parts.2 below i here in
                ((λ e. eqb-false at n z (sym e)), (λ e. no (subst (λ (k : ℕ). IsIn k (nodes t)) e (root-nodes t))), not_root u parts.1 hu ru, elsewhere t parts.0 l (λ i. absurd (no i)), read_by u parts.1 hu ru)
          ]
    ]

    root_subtree : (t : PlanTree) → subtree_of (root_of t) t ≡ t
    root_subtree (leaf n) = refl
    root_subtree (over n t) = rw (eq-eqb n n refl) refl
    root_subtree (both n t u) = rw (eq-eqb n n refl) refl

    pick_second : (b : Bool) (x y : PlanTree) → b ≡ false → (if b then x else y) ≡ y
    pick_second true x y e = cc
    pick_second false x y e = refl

    pick_first : (b : Bool) (x y : PlanTree) → b ≡ true → (if b then x else y) ≡ x
    pick_first true x y e = refl
    pick_first false x y e = cc

    -- the subtree with the number is the Reduce's input
    pub input_subtree : (t : PlanTree) → AreDifferent (nodes t) → has at t ≡ true → subtree_of at t ≡ over at input → subtree_of below t ≡ input
    input_subtree (leaf n) d h r = absurd (leaf_no_over n at input r)
    input_subtree (over n t) d h r =
        let ne = not_root (over n t) d h r in
        let skip = pick_second (below == n) (over n t) (subtree_of below t) (ne_eqb below n (λ e. ne (sym e))) in
        skip ∙ elim (cases_Bool (at == n)) as (λ _. subtree_of below t ≡ input) [
          | inl z ↦
              let same = over_same n at t input (in_first (at == n) (over n t) (subtree_of at t) z r) in
              ap (λ (k : ℕ). subtree_of k t) (sym (ap root_of same ∙ root)) ∙ root_subtree t ∙ same
          | inr z ↦ input_subtree t d.1 (rest_true (at == n) (has at t) z h) (in_part (at == n) (over n t) (subtree_of at t) z r)
        ]
    input_subtree (both n t u) d h r =
        let ne = not_root (both n t u) d h r in
        let parts = AreDifferent-parts (nodes t) (nodes u) d.1 in
        let skip = pick_second (below == n) (both n t u) (if has below t then subtree_of below t else subtree_of below u) (ne_eqb below n (λ e. ne (sym e))) in
        elim (cases_Bool (at == n)) as (λ _. subtree_of below (both n t u) ≡ input) [
          | inl z ↦ absurd (both_no_over n at t u input (in_first (at == n) (both n t u) (if has at t then subtree_of at t else subtree_of at u) z r))
          | inr z ↦
              let r2 = in_part (at == n) (both n t u) (if has at t then subtree_of at t else subtree_of at u) z r in
              let h2 = rest_true (at == n) (has at t || has at u) z h in
              elim (cases_Bool (has at t)) as (λ _. subtree_of below (both n t u) ≡ input) [
                | inl l ↦
                    let rt = in_first (has at t) (subtree_of at t) (subtree_of at u) l r2 in
                    skip ∙ pick_first (has below t) (subtree_of below t) (subtree_of below u) (has-nodes below t (inside t l rt)) ∙ input_subtree t parts.0 l rt
                | inr l ↦
                    let hu = rest_true (has at t) (has at u) l h2 in
                    let ru = in_part (has at t) (subtree_of at t) (subtree_of at u) l r2 in
                    let away = false_from_ne_true (has below t) (λ g. parts.2 below (nodes-has below t g) (inside u hu ru)) in
                    skip ∙ pick_second (has below t) (subtree_of below t) (subtree_of below u) away ∙ input_subtree u parts.1 hu ru
              ]
        ]
