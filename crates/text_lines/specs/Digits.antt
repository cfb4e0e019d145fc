-- Words of digits, and the faults of words.
use Rattle.std.specs.Prelude.{ℕ, ◌^◌, ◌-◌, ◌==◌, Bool, false, not, ◌&&◌, ◌||◌, if◌then◌else◌, nat_le, Option, Some, None, List, [], ◌∷◌, length, get_or}
use Rattle.std.specs.List.{list_any}
use Rattle.std.specs.Str.Parse.{digits_value}
use Rattle.tac_syntax.specs.Names.{is_digit}

abbrev pub are_digits : List ℕ → Bool
are_digits bytes = not (list_any (λ b. not (is_digit b)) bytes) && nat_le 1 (length bytes)

-- decimal digits without a leading zero, except for 0 itself
abbrev pub is_number_word : List ℕ → Bool
is_number_word bytes = are_digits bytes && (nat_le (length bytes) 1 || not (get_or bytes 0 0 == 48))

abbrev pub is_in_range : ℕ → ℕ → List ℕ → Bool
is_in_range low high bytes = is_number_word bytes && nat_le low (digits_value 10 bytes) && nat_le (digits_value 10 bytes) high

-- with or without a sign; there is no `-0`
abbrev pub is_signed_word : List ℕ → Bool
is_signed_word [] = false
is_signed_word (b ∷ bytes) = if b == 45 then is_in_range 1 (2 ^ 63) bytes else is_in_range 0 (2 ^ 63 - 1) (b ∷ bytes)

-- the letter and one or more digits
abbrev pub is_in_form : ℕ → List ℕ → Bool
is_in_form letter [] = false
is_in_form letter (b ∷ bytes) = (b == letter) && are_digits bytes

-- ---- faults

abbrev pub told_unless : Bool → ℕ → Option ℕ
told_unless holds what = if holds then None else Some what

abbrev pub or_else : Option ℕ → Option ℕ → Option ℕ
or_else None next = next
or_else (Some what) next = Some what
