-- A program that allows only one bag allows only one iteration, up to the order of its bags.
use Rattle.std.proofs.Common.{◌≡◌, ◌≤◌, ◌+◌, ◌++◌, ◌⊎◌, inl, inr, ℕ, zero, suc, Bool, true, false, List, [], ◌∷◌}
use Rattle.std.proofs.Common.{get_or, slice_set, length, refl, sym, ap, subst, ◌∙◌, arith}
use Rattle.std.specs.List.Sorted.{IsPermutation}
use Rattle.std.proofs.lemmas.List.Sorted.{IsPermutation-map, IsPermutation-refl, IsPermutation-sym, IsPermutation-trans}
use Rattle.pact_record.specs.declared.columns.Column.{Column}
use Rattle.plan_trees.specs.Plans.{PlanTree, leaf, over, both}
use Rattle.pact_operators.specs.Allowed.{Allows, Bag}
use Rattle.pact_operators.specs.PlanOps.{plan_ops, source_place}
use Rattle.pact_operators.specs.Programs.{ProgramData}
use Rattle.iterate_plan.specs.Rounds.{AllowsOn, AllowsOne, AreRounds, IsIterated, IsOver, IsStable}
use Rattle.iterate_plan.specs.Rounds.{cut_from, cut_to, rows_at, rows_behind, with_rows}

-- ---- inputs in another order

-- each source has the same rows, up to order
abbrev AreAlike : List Bag → List Bag → Type 0
AreAlike now other = (n : ℕ) → IsPermutation (get_or now n []) (get_or other n [])

-- a plan then allows the same bags
allows_alike : (p : ProgramData) (now other : List Bag) → AreAlike now other → (t : PlanTree) (bag : Bag)
    → Allows (plan_ops p now) t bag → Allows (plan_ops p other) t bag
allows_alike p now other alike (leaf n) bag h =
    let place = source_place p.ops n in
    let turned = IsPermutation-sym (get_or now place []) (get_or other place []) (alike place) in
    (record { source = h.0.source; permuted = IsPermutation-trans (get_or other place []) (get_or now place []) bag turned h.0.permuted }, tt)
allows_alike p now other alike (over n t) bag h = (
  record {
    rows = h.0.rows;
    out = h.0.out;
    below = allows_alike p now other alike t h.0.rows h.0.below;
    given = h.0.given;
    permuted = h.0.permuted;
  },
  tt,
)
allows_alike p now other alike (both n t u) bag h = (
  record {
    left_rows = h.0.left_rows;
    right_rows = h.0.right_rows;
    out = h.0.out;
    left_below = allows_alike p now other alike t h.0.left_rows h.0.left_below;
    right_below = allows_alike p now other alike u h.0.right_rows h.0.right_below;
    given = h.0.given;
    permuted = h.0.permuted;
  },
  tt,
)

set_alike : (inputs : List Bag) (at : ℕ) (a b : Bag) → IsPermutation a b → AreAlike (slice_set inputs at a) (slice_set inputs at b)
set_alike [] at a b p n = IsPermutation-refl (get_or [] n [])
set_alike (z ∷ zs) zero a b p zero = p
set_alike (z ∷ zs) zero a b p (suc n) = IsPermutation-refl (get_or zs n [])
set_alike (z ∷ zs) (suc at) a b p zero = IsPermutation-refl z
set_alike (z ∷ zs) (suc at) a b p (suc n) = set_alike zs at a b p n

cut_alike : (columns : List Column) (a b : Bag) → IsPermutation a b → IsPermutation (cut_to columns a) (cut_to columns b)
cut_alike columns a b p = IsPermutation-map (cut_from columns 0) a b p

-- ---- iterations side by side

module _ (p : ProgramData) (one : AllowsOne p) (inputs : List Bag) (at : ℕ) (columns : List Column) where
  one_bag : (now other : List Bag) (bag again : Bag) → AreAlike now other → AllowsOn p now bag → AllowsOn p other again → IsPermutation bag again
  one_bag now other bag again alike a b = one other bag again (allows_alike p now other alike p.plan bag a) b

  -- a round that is stable in one iteration is stable in the other
  both_stable : (rows others bag again : Bag) → IsPermutation rows others → IsPermutation bag again → IsStable columns rows bag
      → IsStable columns others again
  both_stable rows others bag again q r stable =
      IsPermutation-trans others rows (cut_to columns again) (IsPermutation-sym rows others q)
      (IsPermutation-trans rows (cut_to columns bag) (cut_to columns again) stable (cut_alike columns bag again r))

  -- one iteration can't end if the other goes on
  no_end : (rows others last first : Bag) (rest : List Bag) (left : ℕ) (stable : Bool) (end : Bag) → IsPermutation rows others
      → IsPermutation last first → IsOver columns rows left stable [] last (length {A = Bag} [] + 1)
      → IsOver columns others left stable (first ∷ rest) end (length (first ∷ rest) + 1) → length (first ∷ rest) + 1 ≤ left → ⊥
  no_end rows others last first rest left false end q r a b most = absurd (omega (arith, a, b))
  no_end rows others last first rest left true end q r a b most =
      elim a.1 as (λ _. ⊥) [
        | inl full ↦ absurd (omega (arith, full, most))
        | inr same ↦ b.0.0 (both_stable rows others last first q r same)
      ]

  -- an iteration without its first round
  over-rest : (rows bag last : Bag) (bags : List Bag) (left : ℕ) (stable : Bool)
      → IsOver columns rows (suc left) stable (bag ∷ bags) last (length (bag ∷ bags) + 1)
      → IsOver columns (cut_to columns bag) left stable bags last (length bags + 1)
  over-rest rows bag last bags left false h = omega (arith, h)
  over-rest rows bag last bags left true h = (
    h.0.1,
    elim h.1 as (λ _. (length bags + 1 ≡ left) ⊎ IsStable columns (rows_behind columns (cut_to columns bag) bags) last) [
      | inl full ↦ inl (omega (arith, full))
      | inr same ↦ inr same
    ],
  )

  side_by_side : (now other : List Bag) (rows others : Bag) (front later : List Bag) (last end : Bag) (left : ℕ) (stable : Bool)
      → AreAlike now other → IsPermutation rows others
      → AreRounds p inputs at columns now (front ++ last ∷ []) → AreRounds p inputs at columns other (later ++ end ∷ [])
      → length front + 1 ≤ left → length later + 1 ≤ left
      → IsOver columns rows left stable front last (length front + 1) → IsOver columns others left stable later end (length later + 1)
      → IsPermutation last end × (length front ≡ length later)
  side_by_side now other rows others [] [] last end left stable alike q a b m n x y = (one_bag now other last end alike a.0 b.0, refl)
  side_by_side now other rows others [] (c ∷ later) last end left stable alike q a b m n x y =
      absurd (no_end rows others last c later left stable end q (one_bag now other last c alike a.0 b.0) x y n)
  side_by_side now other rows others (b0 ∷ front) [] last end left stable alike q a b m n x y =
      let turned = IsPermutation-sym b0 end (one_bag now other b0 end alike a.0 b.0) in
      absurd (no_end others rows end b0 front left stable last (IsPermutation-sym rows others q) turned y x m)
  side_by_side now other rows others (b0 ∷ front) (c ∷ later) last end zero stable alike q a b m n x y = absurd (omega (arith, m))
  side_by_side now other rows others (b0 ∷ front) (c ∷ later) last end (suc left) stable alike q a b m n x y =
      let this = cut_to columns b0 in
      let that = cut_to columns c in
      let cuts = cut_alike columns b0 c (one_bag now other b0 c alike a.0 b.0) in
      let rest = side_by_side (with_rows inputs at this) (with_rows inputs at that) this that front later last end left stable
      (set_alike inputs at this that cuts) cuts a.1 b.1 (omega (arith, m)) (omega (arith, n))
      (over-rest rows b0 last front left stable x) (over-rest others c end later left stable y) in
      (rest.0, ap suc rest.1)

  pub one_iteration : (rounds : ℕ) (stable : Bool) (last end : Bag) (count times : ℕ) → IsIterated p inputs at columns rounds stable last count
      → IsIterated p inputs at columns rounds stable end times → IsPermutation last end × (count ≡ times)
  one_iteration rounds stable last end count times a b =
      let own = rows_at inputs at in
      let found = side_by_side inputs inputs own own a.front b.front last end rounds stable
      (λ n. IsPermutation-refl (get_or inputs n [])) (IsPermutation-refl own) a.are_rounds b.are_rounds
      (omega (arith, a.count_is, a.most)) (omega (arith, b.count_is, b.most))
      (subst (λ (n : ℕ). IsOver columns own rounds stable a.front last n) a.count_is a.over)
      (subst (λ (n : ℕ). IsOver columns own rounds stable b.front end n) b.count_is b.over) in
      (found.0, a.count_is ∙ ap (λ (n : ℕ). n + 1) found.1 ∙ sym b.count_is)
