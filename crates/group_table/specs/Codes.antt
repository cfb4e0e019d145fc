-- The hash code of key values.
use Rattle.std.specs.Prelude.{ℕ, ◌+◌, ◌*◌, List, fold}
use Rattle.std.specs.Int.{cast_unsigned, w64}
use Rattle.pact_record.specs.declared.values.Value.{Value}
use Rattle.pact_record.specs.declared.values.Value.TheVariants.{Null, Int, Text}
use Rattle.pact_record.specs.Hash.{wrapped}

-- A code with one more number. The factor is 2^64 divided by the golden ratio, rounded down to an odd number.
abbrev pub mixed : ℕ → ℕ → ℕ
mixed h n = wrapped (h * 11400714819323198485 + n)

-- A code with one more value: its kind, as a number that isn't a byte, followed by a number's two's complement or a
-- text's bytes.
abbrev pub with_value : ℕ → Value → ℕ
with_value h Null = mixed h 256
with_value h (Int number) = mixed (mixed h 257) (cast_unsigned w64 number)
with_value h (Text bytes) = fold mixed (mixed h 258) bytes

-- the code of key values, in their order
unfoldable pub code : List Value → ℕ
code values = fold with_value 0 values
