-- The turns of a place matter only for one rule, and only up to its limit.
use Rattle.std.proofs.Common.{◌≡◌, ◌<◌, ◌*◌, ℕ, Bool, zero, suc, ◌||◌, ◌==◌, nat_lt, min, inl, inr, refl, ap, sym, ◌∙◌, arith}
use Rattle.std.proofs.Math.Nat.{mul_assoc, mul-suc, mul-zero, min-le_left, eq-or-lt_of_le}
use Rattle.std.proofs.lemmas.Bool.{lt-ltb}
use Rattle.tac_syntax.specs.declared.rules.Rule.{Rule}
use Rattle.tac_syntax.specs.declared.rules.Rule.TheVariants.{Repeats}
use Rattle.tac_syntax.specs.Code.{Line, turns}
use Rattle.tac_syntax.specs.Limits.{turn_limit}
use Rattle.tac_syntax.specs.Places.{Place}
use Rattle.tac_syntax.specs.Rules.{breaks, breaks_repeats}
use Rattle.tac_validate.specs.Stands.{most_turns}

-- Multiplied by any count, both are above the limit or neither is.
pub record SameTurns (a b : ℕ) : Type 0 where
  pub above : (count : ℕ) → nat_lt turn_limit (a * count) ≡ nat_lt turn_limit (b * count)

pub times : (a b k : ℕ) → SameTurns a b → SameTurns (a * k) (b * k)
times a b k h = record {
  above = λ (count : ℕ). ap (nat_lt turn_limit) (mul_assoc a k count) ∙ h.above (k * count) ∙ ap (nat_lt turn_limit) (sym (mul_assoc b k count));
}

above-capped : (limit most x count : ℕ) → limit < most → nat_lt limit (min x most * count) ≡ nat_lt limit (x * count)
above-capped limit most x zero h = ap (nat_lt limit) (mul-zero (min x most) ∙ sym (mul-zero x))
above-capped limit most x (suc k) h =
    elim (eq-or-lt_of_le (min-le_left x most)) [
      | inl e ↦ ap (λ (m : ℕ). nat_lt limit (m * suc k)) e
      | inr less ↦ lt-ltb limit (min x most * suc k) (omega (arith, mul-suc (min x most) k)) ∙ sym (lt-ltb limit (x * suc k) (omega (arith, mul-suc x k)))
    ]

pub same_turns-capped : (x : ℕ) → SameTurns (min x most_turns) x
same_turns-capped x = record { above = λ (count : ℕ). above-capped turn_limit most_turns x count (omega arith) }

-- At a place with such other turns a statement breaks the same rules.
repeats-turns : (p : Place) (r : ℕ) (l : Line) → SameTurns r p.repeats → breaks_repeats (record p { repeats = r }) l ≡ breaks_repeats p l
repeats-turns p r (turns count) same = ap (λ (t : Bool). (count == 0) || t) (same.above count)
repeats-turns p r l same = refl

pub breaks-turns : (rule : Rule) (n : ℕ) (p : Place) (r : ℕ) (l : Line) → SameTurns r p.repeats → breaks rule n (record p { repeats = r }) l ≡ breaks rule n p l
breaks-turns Repeats n p r l same = repeats-turns p r l same
breaks-turns rule n p r l same = refl
