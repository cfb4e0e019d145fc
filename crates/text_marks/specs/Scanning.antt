-- What the parts of a word's scan find at the front of some bytes.
use Rattle.std.specs.Prelude.{◌≡◌, ◌⊎◌, ℕ, ◌+◌, true, false, List, [], ◌∷◌, ◌++◌, length}
use Rattle.std.specs.List.{AllByRecursion}
use Rattle.text_lines.specs.LineGrammar.{IsGap, IsWordEnd, ends_word, is_blank}
use Rattle.text_marks.specs.LineParts.{IsWordText, escapes, is_open}

-- nothing, or bytes that don't begin with a blank
abbrev pub IsBehindGap : List ℕ → Type 0
IsBehindGap [] = Unit {0}
IsBehindGap (b ∷ bytes) = is_blank b ≡ false

-- The bytes begin with this number of blanks, and no more.
abbrev pub HasGap : List ℕ → ℕ → Type 0
HasGap bytes count = (gap rest : List ℕ) × (bytes ≡ gap ++ rest) × (count ≡ length gap) × IsGap gap × IsBehindGap rest

-- This number of bytes stands before what ends a word.
abbrev pub HasPlain : List ℕ → ℕ → Type 0
HasPlain bytes count =
    (plain rest : List ℕ) × (bytes ≡ plain ++ rest) × (count ≡ length plain) × AllByRecursion (λ b. ends_word b ≡ false) plain × IsWordEnd rest

-- How many bytes a literal has after its first quotation mark: all of them if nothing closes it, otherwise those up to
-- the word's end.
abbrev pub HasLiteral : List ℕ → ℕ → Type 0
HasLiteral bytes count =
    ((count ≡ length bytes) × (is_open false bytes ≡ true))
    ⊎ ((inside tail rest : List ℕ) × (bytes ≡ inside ++ 34 ∷ (tail ++ rest)) × (count ≡ length inside + 1 + length tail) × (is_open false inside ≡ true)
    × (escapes false inside ≡ false) × AllByRecursion (λ b. ends_word b ≡ false) tail × IsWordEnd rest)

-- A word begins here: neither a blank nor a comment.
abbrev pub BeginsWord : List ℕ → Type 0
BeginsWord [] = ⊥
BeginsWord (b ∷ bytes) = ends_word b ≡ false

abbrev pub HasWord : List ℕ → ℕ → Type 0
HasWord bytes count = (word rest : List ℕ) × (bytes ≡ word ++ rest) × (count ≡ length word) × IsWordText word rest
