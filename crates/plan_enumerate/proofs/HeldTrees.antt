-- If the inputs of a tree are in the rows, then with a row for its root the tree is.
use Rattle.std.proofs.Common.{◌≡◌, ◌≤◌, ◌<◌, ◌+◌, ℕ, List, Some, slice_get, refl, ap, sym, subst, ◌∙◌, arith}
use Rattle.plan_trees.specs.Plans.{PlanTree, over, both}
use Rattle.pact_operators.specs.Programs.{ProgramData}
use Rattle.ship_strategy.specs.Facts.{Facts}
use Rattle.ship_strategy.specs.Views.{known_of}
use Rattle.ship_strategy.specs.declared.tables.OpFacts.{OpFacts}
use Rattle.plan_enumerate.specs.declared.plan_rows.Input.{Input}
use Rattle.plan_enumerate.specs.declared.plan_rows.Reads.TheVariants.{One, Two}
use Rattle.plan_enumerate.specs.declared.plan_rows.Row.{Row}
use Rattle.plan_enumerate.specs.RowsOfPlans.{Holds, input_at}
use Rattle.plan_enumerate.proofs.WeighedRows.{holds_kept}

module _ (p : ProgramData) (counts : List ℕ) (f : Facts) where
  pub over_held : (s t : PlanTree) (n : ℕ) → s ≡ over n t → (rows others : List Row) (input : Input) (facts : OpFacts) {count row : ℕ} → input ≡ input_at p counts input.row t
      → Holds p counts f rows input.row t → count ≡ input.row + 1 → known_of facts ≡ f n → row ≡ count → slice_get others count ≡ Some (record { at = n; facts = facts; reads = One input })
      → ((k : ℕ) → k < count → slice_get others k ≡ slice_get rows k) → Holds p counts f others row s
  over_held s t n is rows others input facts {count} {row} same holds last known place here kept =
      subst (Holds p counts f others row) (sym is) (
        record { at = n; facts = facts; reads = One input },
        ap (slice_get others) place ∙ here,
        record { at = refl; facts = known },
        (input.row, omega (arith, last, place), ap One same, holds_kept p counts f rows others input.row t holds (λ k le. kept k (omega (arith, le, last)))),
      )

  pub both_held : (s t u : PlanTree) (n : ℕ) → s ≡ both n t u → (before rows others : List Row) (left right : Input) (facts : OpFacts) {middle count row : ℕ} → left ≡ input_at p counts left.row t
      → right ≡ input_at p counts right.row u → Holds p counts f before left.row t → middle ≡ left.row + 1 → Holds p counts f rows right.row u → count ≡ right.row + 1 → middle ≤ right.row
      → ((k : ℕ) → k < middle → slice_get rows k ≡ slice_get before k) → known_of facts ≡ f n → row ≡ count → slice_get others count ≡ Some (record { at = n; facts = facts; reads = Two left right })
      → ((k : ℕ) → k < count → slice_get others k ≡ slice_get rows k) → Holds p counts f others row s
  both_held s t u n is before rows others left right facts {middle} {count} {row} same_left same_right on_left first on_right last later kept_left known place here kept =
      subst (Holds p counts f others row) (sym is) (
        record { at = n; facts = facts; reads = Two left right },
        ap (slice_get others) place ∙ here,
        record { at = refl; facts = known },
        (
          left.row,
          right.row,
          omega (arith, first, last, later, place),
          omega (arith, last, place),
          (λ i. Two (same_left i) (same_right i)),
          holds_kept p counts f before others left.row t on_left (λ k le. kept k (omega (arith, le, first, last, later)) ∙ kept_left k (omega (arith, le, first))),
          holds_kept p counts f rows others right.row u on_right (λ k le. kept k (omega (arith, le, last))),
        ),
      )
