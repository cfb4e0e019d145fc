-- How a range of numbers is printed, by what the numbers are.
use Rattle.std.proofs.Common.{◌≡◌, ◌-◌, ◌&&◌, ◌==◌, ℕ, Bool, true, false, true≢false, if◌then◌else◌, nat_lt, List, ◌++◌, codes, decimal, Result, Ok, Err, OnOk, refl, ap, sym, ◌∙◌, append_assoc}
use Rattle.explain_words.specs.Ranges.{range_text}

pub on_ok : {T E P Q : Type 0} (r : Result T E) → (P → Q) → OnOk r P → OnOk r Q
on_ok (Ok x) f h = f h
on_ok (Err e) f h = tt

appended : (old xs ys one two : List ℕ) → one ≡ old ++ xs → two ≡ one ++ ys → two ≡ old ++ (xs ++ ys)
appended old xs ys one two e f = f ∙ (ap (λ (t : List ℕ). t ++ ys) e ∙ append_assoc old xs ys)

second : (a b : Bool) (x y z : List ℕ) → a ≡ false → b ≡ true → y ≡ (if a then x else (if b then y else z))
second false true x y z p q = refl
second false false x y z p q = absurd (true≢false (sym q))
second true b x y z p q = absurd (true≢false p)

third : (a b c : Bool) (w x y z : List ℕ) → a ≡ false → b ≡ false → c ≡ true → y ≡ (if a then w else (if b then x else (if c then y else z)))
third false false true w x y z p q r = refl
third false false false w x y z p q r = absurd (true≢false (sym r))
third false true c w x y z p q r = absurd (true≢false q)
third true b c w x y z p q r = absurd (true≢false p)

last : (a b c : Bool) (w x y z : List ℕ) → a ≡ false → b ≡ false → c ≡ false → z ≡ (if a then w else (if b then x else (if c then y else z)))
last false false false w x y z p q r = refl
last false false true w x y z p q r = absurd (true≢false r)
last false true c w x y z p q r = absurd (true≢false q)
last true b c w x y z p q r = absurd (true≢false p)

module _ (low high fields : ℕ) (is_key : Bool) where
  abbrev are_fields : Bool
  are_fields = (low == 0) && ((high == 255) && nat_lt 0 fields)

  abbrev are_counts : Bool
  are_counts = (low == 1) && (high == 64)

  pub fields_put : (old one two all : List ℕ) → is_key ≡ false → are_fields ≡ true → one ≡ old ++ codes "a field (0 to " → two ≡ one ++ decimal (fields - 1) → all ≡ two ++ codes ")" → all ≡ old ++ range_text low high fields is_key
  fields_put old one two all key are put_1 put_2 put_3 =
      let digits = decimal (fields - 1) in
      let shown = appended old (codes "a field (0 to ") (digits ++ codes ")") one all put_1 (appended one digits (codes ")") two all put_2 put_3) in
      shown ∙ ap (λ (t : List ℕ). old ++ t) (second is_key are_fields _ _ _ key are)

  pub counts_put : (old all : List ℕ) → is_key ≡ false → are_fields ≡ false → are_counts ≡ true → all ≡ old ++ codes "a number of fields (1 to 64, or with `pact 2` 1 to 128)" → all ≡ old ++ range_text low high fields is_key
  counts_put old all key other are put = put ∙ ap (λ (t : List ℕ). old ++ t) (third is_key are_fields are_counts _ _ _ _ key other are)

  pub numbers_put : (old one two three all : List ℕ) → is_key ≡ false → are_fields ≡ false → are_counts ≡ false → one ≡ old ++ codes "a number, " → two ≡ one ++ decimal low → three ≡ two ++ codes " to " → all ≡ three ++ decimal high → all ≡ old ++ range_text low high fields is_key
  numbers_put old one two three all key other none put_1 put_2 put_3 put_4 =
      let inner = appended two (codes " to ") (decimal high) three all put_3 put_4 in
      let tail = appended one (decimal low) (codes " to " ++ decimal high) two all put_2 inner in
      let shown = appended old (codes "a number, ") (decimal low ++ (codes " to " ++ decimal high)) one all put_1 tail in
      shown ∙ ap (λ (t : List ℕ). old ++ t) (last is_key are_fields are_counts _ _ _ _ key other none)
