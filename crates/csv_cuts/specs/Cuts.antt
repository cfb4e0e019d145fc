-- Where a CSV text can be cut in two.
use Rattle.std.specs.Prelude.{◌≡◌, ◌≤◌, ◌++◌, ℕ, Bool, false, List, ◌∷◌, length, take, drop}
use Rattle.csv.specs.Reading.{default_config, is_bom, strip_bom, records}

-- the records of a whole text, of which a reader removes a byte order mark at the beginning
abbrev pub records_of : List ℕ → List (List (List ℕ))
records_of bytes = records default_config (strip_bom bytes)

-- The records of the text are those of the bytes before this place, each part read as a text of its own, followed by those of the bytes from it on.
pub record IsCut (text : List ℕ) (at : ℕ) : Type 0 where
  pub inside : at ≤ length text
  pub records : records_of text ≡ records_of (take at text) ++ records_of (drop at text)

abbrev pub begins_with_mark : List ℕ → Bool
begins_with_mark (a ∷ b ∷ c ∷ rest) = is_bom a b c
begins_with_mark text = false

-- The same with no mark removed anywhere. The rest begins with none, so its reader wouldn't remove one either.
pub record IsPlainCut (text : List ℕ) (at : ℕ) : Type 0 where
  pub inside : at ≤ length text
  pub records : records default_config text ≡ records default_config (take at text) ++ records default_config (drop at text)
  pub mark : begins_with_mark (drop at text) ≡ false
