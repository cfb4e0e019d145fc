-- What is known of an iteration after a round that may be followed by another.
use Rattle.std.proofs.Common.{◌≡◌, ◌≤◌, ◌<◌, ◌+◌, ◌++◌, inl, inr, ℕ, Bool, true, false, Some, None, List, [], ◌∷◌}
use Rattle.std.proofs.Common.{length, slice_get, refl, sym, ap, subst, ◌∙◌, length-append, arith}
use Rattle.std.proofs.lemmas.List.{get_or-set_same, set-set}
use Rattle.std.proofs.lemmas.Option.{get_or_from_slice_get}
use Rattle.pact_record.specs.declared.columns.Column.{Column}
use Rattle.pact_operators.specs.Allowed.{Bag}
use Rattle.pact_operators.specs.Inputs.{AreInputsOf}
use Rattle.pact_operators.specs.PlanOps.{sources_of}
use Rattle.pact_operators.specs.Programs.{IsProgram, ProgramData}
use Rattle.iterate_plan.specs.Rounds.{AllowsOn, AreRounds, IsIterated, IsOver, IsSourceAt, IsStable, NoneStable}
use Rattle.iterate_plan.specs.Rounds.{cut_to, rows_at, rows_behind, with_rows}
use Rattle.iterate_plan.proofs.RoundLaws.{behind-last, next_inputs, place-below, rounds-last, unstable-last}
use Rattle.iterate_run.specs.NextRows.{AreNextRows}

-- The bags before this one and this one. If the iteration may end early, none of the bags before was stable. This one
-- is allowed on what the sources have now.
pub record IsSoFar (p : ProgramData) (inputs : List Bag) (at : ℕ) (columns : List Column) (stable : Bool) (now : List Bag)
    (bag : Bag) (count : ℕ) : Type 0 where
  pub front : List Bag
  pub are_rounds : AreRounds p inputs at columns inputs (front ++ bag ∷ [])
  pub count_is : count ≡ length front + 1
  pub unstable : stable ≡ true → NoneStable columns (rows_at inputs at) front
  pub rows : rows_at now at ≡ rows_behind columns (rows_at inputs at) front
  pub others : (rows : Bag) → with_rows now at rows ≡ with_rows inputs at rows
  pub are_inputs : AreInputsOf p now
  pub allowed : AllowsOn p now bag

pub first_round : (p : ProgramData) (inputs : List Bag) (at : ℕ) (columns : List Column) (stable : Bool) (bag : Bag)
    → AreInputsOf p inputs → AllowsOn p inputs bag → IsSoFar p inputs at columns stable inputs bag 1
first_round p inputs at columns stable bag h a = record {
  front = [];
  are_rounds = (a, tt);
  count_is = omega arith;
  unstable = λ e. tt;
  rows = refl;
  others = λ rows. refl;
  are_inputs = h;
  allowed = a;
}

-- ---- its end

over_full : (columns : List Column) (own : Bag) (rounds : ℕ) (stable : Bool) (front : List Bag) (bag : Bag)
    → (stable ≡ true → NoneStable columns own front) → IsOver columns own rounds stable front bag rounds
over_full columns own rounds true front bag u = (u refl, inl refl)
over_full columns own rounds false front bag u = refl

over_early : (columns : List Column) (own : Bag) (rounds : ℕ) (stable : Bool) (front : List Bag) (bag : Bag) (count : ℕ) → stable ≡ true
    → (stable ≡ true → NoneStable columns own front) → IsStable columns (rows_behind columns own front) bag
    → IsOver columns own rounds stable front bag count
over_early columns own rounds true front bag count e u s = (u refl, inr s)
over_early columns own rounds false front bag count e u s = absurd cc

module _ {p : ProgramData} {inputs now : List Bag} {at : ℕ} {columns : List Column} {stable : Bool} {bag : Bag} {count : ℕ}
    (h : IsSoFar p inputs at columns stable now bag count) where
  pub ends_full : {rounds : ℕ} → count ≡ rounds → IsIterated p inputs at columns rounds stable bag rounds
  ends_full {rounds} e = record {
    front = h.front;
    are_rounds = h.are_rounds;
    count_is = sym e ∙ h.count_is;
    most = omega arith;
    over = over_full columns (rows_at inputs at) rounds stable h.front bag h.unstable;
  }

  pub place_there : IsSourceAt p at columns → at < length now
  place_there source = place-below p.fields (sources_of p.ops) now at source.0 h.are_inputs source.1

  -- what the source has
  module _ {own : Bag} (is_own : slice_get now at ≡ Some own) where
    own_is : own ≡ rows_behind columns (rows_at inputs at) h.front
    own_is = sym (get_or_from_slice_get now at own [] is_own) ∙ h.rows

    pub ends_stable : {rounds : ℕ} → AreNextRows columns own bag stable None → count ≤ rounds
        → IsIterated p inputs at columns rounds stable bag count
    ends_stable {rounds} given most =
        let same = subst (λ (rows : Bag). IsStable columns rows bag) own_is given.1 in
        record {
          front = h.front;
          are_rounds = h.are_rounds;
          count_is = h.count_is;
          most = most;
          over = over_early columns (rows_at inputs at) rounds stable h.front bag count given.0 h.unstable same;
        }

    -- ---- one more round

    module _ {next : Bag} {later : List Bag} (program : IsProgram p) (source : IsSourceAt p at columns)
        (given : AreNextRows columns own bag stable (Some next)) (is_later : later ≡ with_rows now at next) where
      later_is : later ≡ with_rows now at (cut_to columns bag)
      later_is = is_later ∙ ap (with_rows now at) given.0

      pub later_inputs : AreInputsOf p later
      later_inputs = subst (AreInputsOf p) (sym later_is) (next_inputs p now at columns bag program h.are_inputs source h.allowed)

      pub next_round : (another : Bag) → AllowsOn p later another → IsSoFar p inputs at columns stable later another (count + 1)
      next_round another a =
          let first = rows_at inputs at in
          let cut = cut_to columns bag in
          let rows = ap (λ (l : List Bag). rows_at l at) later_is ∙ get_or-set_same now at cut [] (place_there source) in
          let allowed = subst (λ (l : List Bag). AllowsOn p l another) (later_is ∙ h.others cut) a in
          let unstable = λ (e : stable ≡ true). subst (λ (rows : Bag). IsStable columns rows bag → ⊥) own_is (given.1 e) in
          record {
            front = h.front ++ bag ∷ [];
            are_rounds = rounds-last p inputs at columns inputs h.front bag another h.are_rounds allowed;
            count_is = omega (arith, h.count_is, length-append h.front (bag ∷ []));
            unstable = λ e. unstable-last columns first h.front bag (h.unstable e) (unstable e);
            rows = rows ∙ sym (behind-last columns first h.front bag);
            others = λ others. ap (λ (l : List Bag). with_rows l at others) later_is ∙ set-set now at cut others ∙ h.others others;
            are_inputs = later_inputs;
            allowed = a;
          }
