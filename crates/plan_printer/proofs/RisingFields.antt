-- The fields of a set below a number n, and below n + 1.
use Rattle.std.proofs.Common.{◌≡◌, ◌+◌, ◌++◌, ℕ, Bool, true, false, cond, [], ◌∷◌, refl, ap, sym, ◌∙◌, append-nil}
use Rattle.std.proofs.Math.Numerals.{suc-eq-add-one}
use Rattle.pact_record.specs.FieldSets.{has_field}
use Rattle.plan_printer.specs.FoundText.{rising_fields}

pub rising_fields-zero : (set : ℕ) → rising_fields set 0 ≡ []
unfolding rising_fields
rising_fields-zero set = refl

rising_fields-suc : (set n : ℕ) → rising_fields set (n + 1) ≡ rising_fields set n ++ cond (has_field set n) (n ∷ []) []
unfolding rising_fields
rising_fields-suc set n = ap (rising_fields set) (sym (suc-eq-add-one n))

pub rising_fields-with : (set n : ℕ) → has_field set n ≡ true → rising_fields set (n + 1) ≡ rising_fields set n ++ n ∷ []
rising_fields-with set n h = rising_fields-suc set n ∙ ap (λ (has : Bool). rising_fields set n ++ cond has (n ∷ []) []) h

pub rising_fields-without : (set n : ℕ) → has_field set n ≡ false → rising_fields set (n + 1) ≡ rising_fields set n
rising_fields-without set n h =
    rising_fields-suc set n ∙ ap (λ (has : Bool). rising_fields set n ++ cond has (n ∷ []) []) h ∙ append-nil (rising_fields set n)
