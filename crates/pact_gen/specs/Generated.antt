-- Generated input: the values that follow from a seed.
use Rattle.std.specs.Prelude.{◌==◌, ◌+◌, ◌*◌, ◌%◌, ◌++◌, ℕ, zero, suc, pos, ◌-ℤ◌, if◌then◌else◌, List, [], ◌∷◌, codes, decimal}
use Rattle.pact_record.specs.declared.values.Value.{Value}
use Rattle.pact_record.specs.declared.values.Value.TheVariants.{Null, Int, Text}

-- ---- numbers

-- numbers are remainders of division by this
abbrev pub modulus : ℕ
modulus = 2147483647

-- so a seed is at most this
abbrev pub seed_limit : ℕ
seed_limit = 2147483646

-- The next number, from which a value is made. It stays closed, so that no check multiplies numerals.
unfoldable pub stepped : ℕ → ℕ
stepped x = (x * 48271 + 1) % modulus

-- ---- rows

-- the letter `t` and the number's last two digits (without a leading 0), or Null if its last digit is 0
abbrev pub text_value : ℕ → Value
text_value x = if x % 10 == 0 then Null else Text (codes "t" ++ decimal (x % 100))

-- a row has a value from each of three numbers, and Null in a fourth field
abbrev pub row_of : (first second third : ℕ) → List Value
row_of first second third = Int (pos (first % 1000)) ∷ Int (pos (second % 2001) -ℤ pos 1000) ∷ text_value third ∷ Null ∷ []

-- the number is stepped before each value, the first one too
abbrev pub row_behind : ℕ → List Value
row_behind x = row_of (stepped x) (stepped (stepped x)) (stepped (stepped (stepped x)))

-- the number after a row, from which the next row goes on
abbrev pub behind_row : ℕ → ℕ
behind_row x = stepped (stepped (stepped x))

-- this number of rows, the first of which follows from the seed
abbrev pub generated : (seed rows : ℕ) → List (List Value)
generated x zero = []
generated x (suc n) = row_behind x ∷ generated (behind_row x) n

-- the fields that are written as text, in their order
abbrev pub listed : List ℕ
listed = 0 ∷ 1 ∷ 2 ∷ []
