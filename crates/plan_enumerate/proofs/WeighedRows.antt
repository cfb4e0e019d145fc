-- The weights of a plan's rows are those of its trees.
use Rattle.std.proofs.Common.{◌≡◌, ◌≤◌, ◌<◌, ◌+◌, ◌⊎◌, inl, inr, ℕ, List, Some, length, set, slice_get, refl, ap, sym, subst, ◌∙◌, arith}
use Rattle.std.proofs.lemmas.Bool.{cases_lt}
use Rattle.std.proofs.lemmas.Option.{same_Some}
use Rattle.cost_model.specs.Estimates.{estimate}
use Rattle.pact_record.proofs.Lists.{slice_get-set_other, slice_get-set_same}
use Rattle.plan_trees.specs.Plans.{PlanTree, leaf, over, both}
use Rattle.pact_operators.specs.Programs.{ProgramData}
use Rattle.ship_strategy.specs.Facts.{Facts}
use Rattle.ship_strategy.specs.Views.{known_of}
use Rattle.ship_strategy.specs.declared.ways.Way.{Way}
use Rattle.plan_enumerate.specs.declared.plan_rows.Row.{Row}
use Rattle.plan_enumerate.specs.declared.weights.Weight.{Weight}
use Rattle.plan_enumerate.specs.RowsOfPlans.{AreWeighed, Holds, row_weight, weight_in, weight_of_reads}
use Rattle.plan_enumerate.specs.Weights.{weight_both, weight_over, weighed}

-- the numbers below i + 1 are those below i, and i
below_more : (j i : ℕ) → j < i + 1 → (j < i) ⊎ (j ≡ i)
below_more j i less = elim (cases_lt j i) as (λ _. (j < i) ⊎ (j ≡ i)) [
  | inl below ↦ inl below
  | inr above ↦ inr (omega (arith, less, above))
]

module _ (p : ProgramData) (counts : List ℕ) (f : Facts) where
  -- ---- rows that were added after others

  pub holds_kept : (rows others : List Row) (i : ℕ) (t : PlanTree) → Holds p counts f rows i t → ((k : ℕ) → k ≤ i → slice_get others k ≡ slice_get rows k) → Holds p counts f others i t
  holds_kept rows others i (leaf n) (x, e, reads) same = (x, same i (omega arith) ∙ e, reads)
  holds_kept rows others i (over n t) (x, e, is, (j, less, reads, below)) same =
      (x, same i (omega arith) ∙ e, is, (j, less, reads, holds_kept rows others j t below (λ k le. same k (omega (arith, le, less)))))
  holds_kept rows others i (both n t u) (x, e, is, (j, m, less, fewer, reads, left, right)) same = (
    x,
    same i (omega arith) ∙ e,
    is,
    (j, m, less, fewer, reads, holds_kept rows others j t left (λ k le. same k (omega (arith, le, less))), holds_kept rows others m u right (λ k le. same k (omega (arith, le, fewer)))),
  )

  module _ (workers : ℕ) where
    -- ---- other ways

    same_ways : (w v : ℕ → Way) (rows : List Row) (i : ℕ) (t : PlanTree) → Holds p counts f rows i t → ((k : ℕ) (x : Row) → k ≤ i → slice_get rows k ≡ Some x → w x.at ≡ v x.at)
        → weighed p counts workers f w t ≡ weighed p counts workers f v t
    same_ways w v rows i (leaf n) h same = refl
    same_ways w v rows i (over n t) (x, e, is, (j, less, reads, below)) same =
        ap (weight_over (f n) workers (estimate p counts t)) (same_ways w v rows j t below (λ k y le g. same k y (omega (arith, le, less)) g))
    same_ways w v rows i (both n t u) (x, e, is, (j, m, less, fewer, reads, left, right)) same =
        let way : w n ≡ v n = ap w (sym is.at) ∙ same i x (omega arith) e ∙ ap v is.at in
        let on_left = same_ways w v rows j t left (λ k y le g. same k y (omega (arith, le, less)) g) in
        let on_right = same_ways w v rows m u right (λ k y le g. same k y (omega (arith, le, fewer)) g) in
        λ q. weight_both (f n) (way q) workers (estimate p counts t) (estimate p counts u) (on_left q) (on_right q)

    -- the rows before the first whose way has changed keep their weights
    pub weighed_before : (w v : ℕ → Way) (rows : List Row) (weights : List Weight) (count first : ℕ) → AreWeighed p counts workers f w rows weights count → first ≤ count
        → ((k : ℕ) (x : Row) → k < first → slice_get rows k ≡ Some x → w x.at ≡ v x.at) → AreWeighed p counts workers f v rows weights first
    weighed_before w v rows weights count first are le same j less t h =
        are j (omega (arith, less, le)) t h ∙ same_ways w v rows j t h (λ k x below e. same k x (omega (arith, below, less)) e)

    -- ---- one more row

    pub row_weighed : (w : ℕ → Way) (rows : List Row) (weights : List Weight) (i : ℕ) (x : Row) → slice_get rows i ≡ Some x → AreWeighed p counts workers f w rows weights i
        → (t : PlanTree) → Holds p counts f rows i t → row_weight w workers (λ j. weight_in (slice_get weights j)) x ≡ weighed p counts workers f w t
    row_weighed w rows weights i x e are (leaf n) (y, g, reads) =
        let same : x ≡ y = same_Some x y (sym e ∙ g) in
        ap (weight_of_reads (known_of x.facts) (w x.at) workers (λ j. weight_in (slice_get weights j))) (ap (λ (r : Row). r.reads) same ∙ reads)
    row_weighed w rows weights i x e are (over n t) (y, g, is, (j, less, reads, below)) =
        let same : x ≡ y = same_Some x y (sym e ∙ g) in
        let facts : known_of x.facts ≡ f n = ap (λ (r : Row). known_of r.facts) same ∙ is.facts in
        let read : x.reads ≡ _ = ap (λ (r : Row). r.reads) same ∙ reads in
        (λ q. weight_of_reads (facts q) (w x.at) workers (λ k. weight_in (slice_get weights k)) (read q)) ∙ ap (weight_over (f n) workers (estimate p counts t)) (are j less t below)
    row_weighed w rows weights i x e are (both n t u) (y, g, is, (j, m, less, fewer, reads, left, right)) =
        let same : x ≡ y = same_Some x y (sym e ∙ g) in
        let facts : known_of x.facts ≡ f n = ap (λ (r : Row). known_of r.facts) same ∙ is.facts in
        let way : w x.at ≡ w n = ap (λ (r : Row). w r.at) same ∙ ap w is.at in
        let read : x.reads ≡ _ = ap (λ (r : Row). r.reads) same ∙ reads in
        let on_left = are j less t left in
        let on_right = are m fewer u right in
        (λ q. weight_of_reads (facts q) (way q) workers (λ k. weight_in (slice_get weights k)) (read q))
        ∙ (λ q. weight_both (f n) (w n) workers (estimate p counts t) (estimate p counts u) (on_left q) (on_right q))

    pub set_weighed : (w : ℕ → Way) (rows : List Row) (weights : List Weight) (i : ℕ) (x : Row) (weight : Weight) → i < length weights → slice_get rows i ≡ Some x
        → AreWeighed p counts workers f w rows weights i → weight ≡ row_weight w workers (λ j. weight_in (slice_get weights j)) x → AreWeighed p counts workers f w rows (set weights i weight) (i + 1)
    set_weighed w rows weights i x weight fits e are same j less t h = elim (below_more j i less) as (λ _. weight_in (slice_get (set weights i weight) j) ≡ weighed p counts workers f w t) [
      | inl below ↦ ap weight_in (slice_get-set_other weights i j weight (λ d. let k = d in omega (arith, below, k))) ∙ are j below t h
      | inr here ↦
          subst (λ (k : ℕ). weight_in (slice_get (set weights i weight) k) ≡ weighed p counts workers f w t) (sym here)
          (ap weight_in (slice_get-set_same weights i weight fits) ∙ same ∙ row_weighed w rows weights i x e are t (subst (λ (k : ℕ). Holds p counts f rows k t) here h))
    ]
