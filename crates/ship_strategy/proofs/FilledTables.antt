-- A walk over a plan fills a table with what is known of each of its sources and operators.
use Rattle.std.proofs.Common.{◌≡◌, ◌==◌, ◌||◌, inl, inr, ℕ, true, false, refl, ap, sym, ◌∙◌}
use Rattle.std.proofs.lemmas.Bool.{cases_Bool, or_parts}
use Rattle.tac_syntax.specs.Contexts.{FieldSet}
use Rattle.tac_flow.specs.Known.{no_fields}
use Rattle.plan_trees.specs.Plans.{PlanTree, leaf, over, both, has, subtree_of}
use Rattle.plan_trees.proofs.SubtreesOfPlans.{root_of-subtree}
use Rattle.pact_operators.specs.PlanOps.{kind_at}
use Rattle.pact_operators.specs.Programs.{ProgramData}
use Rattle.ship_strategy.specs.Facts.{Facts}
use Rattle.ship_strategy.specs.PlanFacts.{attribute, facts_at, facts_for, facts_of, filled, owned}
use Rattle.ship_strategy.specs.Views.{put, unknown}

-- ---- at the end of the walk

filled_else : (p : ProgramData) (t : PlanTree) (old : Facts) (k : ℕ) → has k t ≡ false → filled p t old k ≡ old k
filled_else p (leaf n) old k h = rw h refl
filled_else p (over n t) old k h = let q = or_parts (k == n) (has k t) h in rw q.0 (filled_else p t old k q.1)
filled_else p (both n t u) old k h =
    let q = or_parts (k == n) _ h in
    let r = or_parts (has k t) (has k u) q.1 in
    rw q.0 (filled_else p t (filled p u old) k r.0 ∙ filled_else p u old k r.1)

filled_at : (p : ProgramData) (t : PlanTree) (old : Facts) (k : ℕ) → has k t ≡ true → filled p t old k ≡ facts_at p (subtree_of k t)
filled_at p (leaf n) old k h = rw h refl
filled_at p (over n t) old k h = elim (cases_Bool (k == n)) as (λ _. filled p (over n t) old k ≡ facts_at p (subtree_of k (over n t))) [
  | inl e ↦ rw e refl
  | inr e ↦ rw e (filled_at p t old k (simp e at h))
]
filled_at p (both n t u) old k h = elim (cases_Bool (k == n)) as (λ _. filled p (both n t u) old k ≡ facts_at p (subtree_of k (both n t u))) [
  | inl e ↦ rw e refl
  | inr e ↦ elim (cases_Bool (has k t)) as (λ _. filled p (both n t u) old k ≡ facts_at p (subtree_of k (both n t u))) [
    | inl l ↦ rw (e, l) (filled_at p t (filled p u old) k l)
    | inr l ↦ rw (e, l) (filled_else p t (filled p u old) k l ∙ filled_at p u old k (simp (e, l) at h))
  ]
]

pub filled_is : (p : ProgramData) (t : PlanTree) → filled p t (λ k. unknown) ≡ facts_of p t
filled_is p t = λ i k. at k i
  where
    at : (k : ℕ) → filled p t (λ k. unknown) k ≡ facts_of p t k
    at k = elim (cases_Bool (has k t)) as (λ _. filled p t (λ k. unknown) k ≡ facts_of p t k) [
      | inl e ↦ rw e (filled_at p t (λ k. unknown) k e)
      | inr e ↦ rw e (filled_else p t (λ k. unknown) k e)
    ]

-- ---- at each root

pub empty_set : (s : FieldSet) → ((k : ℕ) → s k ≡ false) → s ≡ no_fields
empty_set s h = λ i k. h k i

pub fields_both : (p : ProgramData) (s t u : PlanTree) (n : ℕ) (l r m : FieldSet) → s ≡ both n t u → l ≡ attribute p t → r ≡ attribute p u → ((k : ℕ) → m k ≡ (owned p.functions p.ops n k || (l k || r k))) → m ≡ attribute p s
fields_both p s t u n l r m is left right all =
    (λ i k. (all k ∙ (λ j. owned p.functions p.ops n k || (left j k || right j k))) i) ∙ ap (attribute p) (sym is)

pub filled_leaf : (p : ProgramData) (s : PlanTree) (n : ℕ) (l r : FieldSet) (old new : Facts) → s ≡ leaf n → l ≡ no_fields → r ≡ no_fields → new ≡ put n (facts_for p n l r) old → new ≡ filled p s old
filled_leaf p s n l r old new is left right e = e ∙ (λ i. put n (facts_for p n (left i) (right i)) old) ∙ ap (λ (z : PlanTree). filled p z old) (sym is)

pub filled_over : (p : ProgramData) (s t : PlanTree) (n : ℕ) (l r : FieldSet) (old below new : Facts) → s ≡ over n t → l ≡ attribute p t → r ≡ no_fields → below ≡ filled p t old
    → new ≡ put n (facts_for p n l r) below → new ≡ filled p s old
filled_over p s t n l r old below new is left right b e = e ∙ (λ i. put n (facts_for p n (left i) (right i)) (b i)) ∙ ap (λ (z : PlanTree). filled p z old) (sym is)

pub filled_both : (p : ProgramData) (s t u : PlanTree) (n : ℕ) (l r : FieldSet) (old first second new : Facts) → s ≡ both n t u → l ≡ attribute p t → r ≡ attribute p u → first ≡ filled p u old
    → second ≡ filled p t first → new ≡ put n (facts_for p n l r) second → new ≡ filled p s old
filled_both p s t u n l r old first second new is left right a b e =
    let two : second ≡ filled p t (filled p u old) = b ∙ ap (filled p t) a in
    e ∙ (λ i. put n (facts_for p n (left i) (right i)) (two i)) ∙ ap (λ (z : PlanTree). filled p z old) (sym is)

-- ---- kinds

pub fact_kinds : (p : ProgramData) (t : PlanTree) (k : ℕ) → has k t ≡ true → (facts_of p t k).kind ≡ kind_at p.ops k
fact_kinds p t k h = rw h (ap (kind_at p.ops) (root_of-subtree k t h))
