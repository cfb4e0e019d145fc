-- Whether a key has a Null, value by value.
use Rattle.std.proofs.Common.{◌≡◌, ◌≢◌, ◌<◌, ◌+◌, ℕ, zero, suc, Bool, true, false, List, [], ◌∷◌, length, drop, refl, sym, ap, ◌∙◌, arith}
use Rattle.std.proofs.lemmas.Bool.{both_ways}
use Rattle.pact_record.specs.declared.values.Value.{Value}
use Rattle.pact_record.specs.declared.values.Value.TheVariants.{Null, Int, Text}
use Rattle.pact_record.specs.Record.{at_field}
use Rattle.pact_bag.specs.Pairs.{has_null}

-- a Null at a place
pub null_at : (key : List Value) (n : ℕ) → n < length key → at_field key n ≡ Null → has_null (drop n key) ≡ true
null_at [] n lt e = absurd (omega (arith, lt))
null_at (v ∷ key) zero lt e = ap (λ (w : Value). has_null (w ∷ key)) e
null_at (v ∷ key) (suc n) lt e = null_at key n (omega (arith, lt)) e

-- another value at a place
pub other_at : (key : List Value) (n m : ℕ) → m ≡ n + 1 → n < length key → at_field key n ≢ Null → has_null (drop n key) ≡ has_null (drop m key)
other_at [] n m s lt e = absurd (omega (arith, lt))
other_at (Null ∷ key) zero m s lt e = absurd (e refl)
other_at (Int x ∷ key) zero m s lt e = ap (λ (k : ℕ). has_null (drop k (Int x ∷ key))) (sym s)
other_at (Text x ∷ key) zero m s lt e = ap (λ (k : ℕ). has_null (drop k (Text x ∷ key))) (sym s)
other_at (v ∷ key) (suc n) zero s lt e = absurd (omega (arith, s))
other_at (v ∷ key) (suc n) (suc m) s lt e = other_at key n m (omega (arith, s)) (omega (arith, lt)) e

-- after the last value there is no Null
pub none_behind : (key : List Value) (n : ℕ) → length key ≡ n → has_null (drop n key) ≡ false
none_behind [] zero e = refl
none_behind [] (suc n) e = absurd (omega (arith, e))
none_behind (v ∷ key) zero e = absurd (omega (arith, e))
none_behind (v ∷ key) (suc n) e = none_behind key n (omega (arith, e))

-- a value that isn't Null by the test
pub not_null : (v w : Value) (found : Bool) → v ≡ w → found ≡ has_null (v ∷ []) → found ≡ false → w ≢ Null
not_null v w found here test out e =
    let null : has_null (v ∷ []) ≡ true = ap (λ (x : Value). has_null (x ∷ [])) (here ∙ e) in
    both_ways found out (test ∙ null)

pub is_null_at : (v w : Value) (found : Bool) → v ≡ w → found ≡ has_null (v ∷ []) → found ≡ true → w ≡ Null
is_null_at v w found here test held = sym here ∙ null v (sym test ∙ held) where
  null : (x : Value) → has_null (x ∷ []) ≡ true → x ≡ Null
  null Null h = refl
  null (Int n) h = cc
  null (Text t) h = cc
