-- Which bytes of a CSV text are quoted.
use Rattle.std.specs.Prelude.{◌≡◌, ◌<◌, ◌==◌, ◌||◌, if◌then◌else◌, ℕ, Bool, true, false, List, [], ◌∷◌, length, take, slice_index}
use Rattle.csv_cuts.specs.declared.cuts.Place.{Place}
use Rattle.csv_cuts.specs.declared.cuts.Place.TheVariants.{FieldStart, InField, InQuotes, AfterQuote}

-- after a byte outside of quotes, other than a quote that opens or closes
abbrev pub after_unquoted : ℕ → Place
after_unquoted c = if c == 44 then FieldStart else if (c == 13) || (c == 10) then FieldStart else InField

abbrev pub next_place : Place → ℕ → Place
next_place FieldStart c = if c == 34 then InQuotes else after_unquoted c
next_place InField c = after_unquoted c
next_place InQuotes c = if c == 34 then AfterQuote else InQuotes
next_place AfterQuote c = if c == 34 then InQuotes else after_unquoted c

abbrev pub place_after : Place → List ℕ → Place
place_after place [] = place
place_after place (c ∷ cs) = place_after (next_place place c) cs

abbrev pub is_quoted : Place → Bool
is_quoted InQuotes = true
is_quoted FieldStart = false
is_quoted InField = false
is_quoted AfterQuote = false

-- the byte at this place is a line feed that isn't quoted
pub record IsLineEnd (text : List ℕ) (k : ℕ) : Type 0 where
  pub inside : k < length text
  pub feed : slice_index text k ≡ 10
  pub outside : is_quoted (place_after FieldStart (take k text)) ≡ false
