-- Words of digits, and the numbers that they spell.
use Rattle.std.proofs.Common.{◌≡◌, ◌≤◌, ◌<◌, ◌^◌, ◌-◌, ◌==◌, ◌&&◌, ◌||◌, ℕ, zero, suc, ℤ, pos, negsuc, Bool, true, false, not, nat_le, List, [], ◌∷◌, length, get_or, IsUtf8, FitsSigned, decimal, refl, ap, sym, ◌∙◌, arith, w64}
use Rattle.std.specs.Fmt.{signed_decimal}
use Rattle.std.specs.List.{list_any}
use Rattle.std.specs.Str.Parse.{digits_value}
use Rattle.std.proofs.lemmas.Bool.{and_parts, le-leb, leb-true, not-true, or_left}
use Rattle.std.proofs.lemmas.Bool.Decides.{nat_tests}
use Rattle.std.proofs.lemmas.Fmt.{IsAscii-from_digits, decimal-digits_value, decimal_is_IsNumeral, first_decimal, length-decimal-le}
use Rattle.std.proofs.lemmas.Str.{IsUtf8-from_ascii}
use Rattle.std.proofs.lemmas.Str.Parse.{IsDigitsTest, IsNumeralModel, numerals_by_value}
use Rattle.tac_syntax.specs.Grammar.{IsNumber}
use Rattle.tac_syntax.specs.Names.{is_digit}
use Rattle.text_lines.specs.Digits.{are_digits, is_number_word, is_in_range, is_signed_word}

-- Each byte is a digit.
abbrev pub HasNoOther : List ℕ → Type 0
HasNoOther ds = list_any (λ b. not (is_digit b)) ds ≡ false

digit_parts : (c : ℕ) (rest : Bool) → (not (nat_le 48 c && nat_le c 57) || rest) ≡ false → (48 ≤ c) × (c ≤ 57) × (rest ≡ false)
digit_parts c rest h = (grind (arith, nat_tests), grind (arith, nat_tests), grind (arith, nat_tests))

digit_more : (c : ℕ) (rest : Bool) → 48 ≤ c → c ≤ 57 → rest ≡ false → (not (nat_le 48 c && nat_le c 57) || rest) ≡ false
digit_more c rest low high h = grind (arith, nat_tests)

tells_no_other : IsDigitsTest HasNoOther
tells_no_other = record {
  empty = refl;
  parts = λ c cs h. let d = digit_parts c _ h in ((d.0, d.1), d.2);
  more = λ c cs h k. digit_more c _ h.0 h.1 k;
}

pub own_digits : IsNumeralModel HasNoOther (digits_value 10)
own_digits = numerals_by_value HasNoOther tells_no_other

or_not : (a : Bool) (n : ℕ) → 48 < n → (a || not (n == 48)) ≡ true
or_not a n h = grind (arith, nat_tests)

pub no_other : (ds : List ℕ) → are_digits ds ≡ true → HasNoOther ds
no_other ds h = not-true _ (and_parts (not (list_any (λ b. not (is_digit b)) ds)) _ h).0

pub some_digit : (ds : List ℕ) → are_digits ds ≡ true → 0 < length ds
some_digit ds h = let l = leb-true 1 (length ds) (and_parts (not (list_any (λ b. not (is_digit b)) ds)) _ h).1 in omega (arith, l)

pub IsUtf8-are_digits : (ds : List ℕ) → are_digits ds ≡ true → IsUtf8 ds
IsUtf8-are_digits ds h = IsUtf8-from_ascii ds (IsAscii-from_digits ds (own_digits.to ds (no_other ds h)))

pub minus_no_digit : (b : ℕ) (bytes : List ℕ) → are_digits (b ∷ bytes) ≡ true → (b == 45) ≡ false
minus_no_digit b bytes h = let low = (digit_parts b _ (no_other (b ∷ bytes) h)).0 in grind (arith, nat_tests)

-- ---- numbers in their one spelling

pub are_digits-decimal : (n : ℕ) → n < 2 ^ 64 → are_digits (decimal n) ≡ true
are_digits-decimal n h =
    let d = (decimal_is_IsNumeral n h).0 in
    let some : nat_le 1 (length (decimal n)) ≡ true = le-leb 1 (length (decimal n)) (omega (arith, d.0)) in
    rw (own_digits.from (decimal n) d.1, some) refl

first_or_short : (n : ℕ) → n < 2 ^ 64 → (nat_le (length (decimal n)) 1 || not (get_or (decimal n) 0 0 == 48)) ≡ true
first_or_short zero h = let l = length-decimal-le 1 0 (omega arith) (omega arith) h in or_left _ _ (le-leb (length (decimal 0)) 1 l)
first_or_short (suc m) h = let f = first_decimal (suc m) (omega arith) h in or_not (nat_le (length (decimal (suc m))) 1) (get_or (decimal (suc m)) 0 0) f

pub is_in_range-decimal : (low high n : ℕ) → low ≤ n → n ≤ high → n < 2 ^ 64 → is_in_range low high (decimal n) ≡ true
is_in_range-decimal low high n above below small =
    let v = (decimal_is_IsNumeral n small).1 in
    rw (are_digits-decimal n small, first_or_short n small, v, le-leb low n above, le-leb n high below) refl

-- the number of a word in digits
abbrev pub number_in : List ℕ → ℕ
number_in word = digits_value 10 word

pub number_in-decimal : (n : ℕ) → n < 2 ^ 64 → number_in (decimal n) ≡ n
number_in-decimal n h = (decimal_is_IsNumeral n h).1

pub number_back : (n : ℕ) → IsNumber n → number_in (decimal n) ≡ n
number_back n h = number_in-decimal n (omega (arith, h))

-- ---- numbers with a sign

is_signed_word-digits : (w : List ℕ) → are_digits w ≡ true → is_in_range 0 (2 ^ 63 - 1) w ≡ true → is_signed_word w ≡ true
is_signed_word-digits [] d h = absurd cc
is_signed_word-digits (b ∷ bytes) d h = rw (minus_no_digit b bytes d) h

pub is_signed_word-signed_decimal : (z : ℤ) → FitsSigned w64 z → is_signed_word (signed_decimal z) ≡ true
is_signed_word-signed_decimal (pos n) h =
    let small : n < 2 ^ 64 = omega (arith, h) in
    is_signed_word-digits (decimal n) (are_digits-decimal n small) (is_in_range-decimal 0 (2 ^ 63 - 1) n (omega arith) (omega (arith, h)) small)
is_signed_word-signed_decimal (negsuc n) h = is_in_range-decimal 1 (2 ^ 63) (suc n) (omega arith) (omega (arith, h)) (omega (arith, h))

-- ---- what a test of a word implies

short_by_first : (ds : List ℕ) → 0 < length ds → (nat_le (length ds) 1 || not (get_or ds 0 0 == 48)) ≡ true → get_or ds 0 0 ≡ 48 → length ds ≡ 1
short_by_first ds some h e = grind (arith, nat_tests)

-- A word that is a number in range is the decimal spelling of one.
pub number_spelled : (low high : ℕ) (word : List ℕ) → high < 2 ^ 64 → is_in_range low high word ≡ true → (n : ℕ) × (word ≡ decimal n) × (low ≤ n) × (n ≤ high)
number_spelled low high word small h =
    let bounds = and_parts (is_number_word word && nat_le low (digits_value 10 word)) _ h in
    let parts = and_parts (is_number_word word) _ bounds.0 in
    let spelled = and_parts (are_digits word) _ parts.0 in
    let above = leb-true low (digits_value 10 word) parts.1 in
    let below = leb-true (digits_value 10 word) high bounds.1 in
    let some = some_digit word spelled.0 in
    let lead = short_by_first word some spelled.1 in
    (digits_value 10 word, sym (decimal-digits_value own_digits word (no_other word spelled.0) some lead (omega (arith, below, small))), above, below)

-- That number is the value of the digits.
pub number_read : (low high n : ℕ) (word : List ℕ) → high < 2 ^ 64 → n ≡ number_in word → is_in_range low high word ≡ true → (word ≡ decimal n) × (low ≤ n) × (n ≤ high)
number_read low high n word small e h =
    let s = number_spelled low high word small h in
    let same : s.0 ≡ n = sym (number_in-decimal s.0 (omega (arith, small, s.3))) ∙ ap number_in (sym s.1) ∙ sym e in
    (s.1 ∙ ap decimal same, omega (arith, s.2, same), omega (arith, s.3, same))
