-- The fixed words of the language.
use Rattle.std.specs.Prelude.{◌≡◌, ◌⊎◌, ℕ, List, [], ◌∷◌, codes}

-- the fixed words of the language, in the order of docs/language.md
abbrev pub fixed_words : List (List ℕ)
fixed_words =
    codes "pact" ∷ codes "fields" ∷ codes "source" ∷ codes "function" ∷ codes "map" ∷ codes "match" ∷
    codes "cross" ∷ codes "reduce" ∷ codes "cogroup" ∷ codes "sink" ∷ codes "by" ∷ codes "=" ∷ codes "set" ∷
    codes "emit" ∷ codes "if" ∷ codes "else" ∷ codes "end" ∷ codes "repeat" ∷ codes "each" ∷ codes "of" ∷
    codes "int" ∷ codes "text" ∷ codes "null" ∷ codes "mov" ∷ codes "get" ∷ codes "key" ∷ codes "new" ∷
    codes "copy" ∷ codes "not" ∷ codes "isnull" ∷ codes "len" ∷ codes "add" ∷ codes "sub" ∷ codes "mul" ∷
    codes "div" ∷ codes "rem" ∷ codes "addw" ∷ codes "min" ∷ codes "max" ∷ codes "lt" ∷ codes "le" ∷
    codes "eq" ∷ codes "and" ∷ codes "or" ∷ codes "cat" ∷ codes "in" ∷ codes "left" ∷ codes "right" ∷
    codes "join" ∷ codes "first" ∷ codes "group" ∷ []

abbrev pub IsWordIn : List (List ℕ) → List ℕ → Type 0
IsWordIn [] word = ⊥
IsWordIn (other ∷ words) word = (word ≡ other) ⊎ IsWordIn words word

abbrev pub IsFixedWord : List ℕ → Type 0
IsFixedWord word = IsWordIn fixed_words word
