-- The values of arguments, in clap's result.
use Rattle.std.specs.Prelude.{◌^◌, ◌&&◌, nat_lt, List, ℕ, Bool, true, false, Option, Some, None, cond, codes, option_map, option_and_then}
use Rattle.std.specs.Str.{bytes_eq}
use Rattle.std.specs.Str.Parse.{digits_value, without_leading_plus}
use Rattle.clap.specs.ValueTests.{is_numeral}
use Rattle.clap.specs.Words.{Row, Text, first_of, one_of}
use Rattle.pact_words.specs.declared.commands.LocalStrategy.{LocalStrategy}
use Rattle.pact_words.specs.declared.commands.LocalStrategy.TheVariants.{Hash, Sort}

-- the number that the digits write, if it fits into 32 bits
abbrev pub number_written : List ℕ → Option ℕ
number_written digits = cond (is_numeral digits && nat_lt (digits_value 10 digits) (2 ^ 32)) (Some (digits_value 10 digits)) None

-- the number that a text means; `4`, `04` and `+4` mean 4
abbrev pub number_said : Text → Option ℕ
number_said text = number_written (without_leading_plus text)

-- the number of the option with this name
abbrev pub number_of : Text → List Row → Option ℕ
number_of name rows = option_and_then number_said (one_of name rows)

-- the value of a flag, which is a text in clap's result, too
abbrev pub flag_said : Text → Option Bool
flag_said text = cond (bytes_eq text (codes "true")) (Some true) (cond (bytes_eq text (codes "false")) (Some false) None)

-- whether the flag with this name was given
abbrev pub flag_of : Text → List Row → Option Bool
flag_of name rows = option_and_then flag_said (one_of name rows)

-- the strategy that a word names
abbrev pub local_said : Text → Option LocalStrategy
local_said text = cond (bytes_eq text (codes "hash")) (Some Hash) (cond (bytes_eq text (codes "sort")) (Some Sort) None)

-- the strategy of the option with this name
abbrev pub local_of : Text → List Row → Option LocalStrategy
local_of name rows = option_and_then local_said (first_of name rows)

-- ---- several values, if all of them are there

-- a function of two values
abbrev pub all_two : {A B C : Type 0} → (A → B → C) → Option A → Option B → Option C
all_two f a b = option_and_then (λ x. option_map (f x) b) a

-- a function of three values
abbrev pub all_three : {A B C D : Type 0} → (A → B → C → D) → Option A → Option B → Option C → Option D
all_three f a b c = option_and_then (λ x. all_two (f x) b c) a

-- a function of four values
abbrev pub all_four : {A B C D E : Type 0} → (A → B → C → D → E) → Option A → Option B → Option C → Option D → Option E
all_four f a b c d = option_and_then (λ x. all_three (f x) b c d) a

-- a function of five values
abbrev pub all_five : {A B C D E F : Type 0} → (A → B → C → D → E → F) → Option A → Option B → Option C → Option D → Option E → Option F
all_five f a b c d e = option_and_then (λ x. all_four (f x) b c d e) a
