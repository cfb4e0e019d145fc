-- The words of a line as they stand in it, whether or not they spell something.
use Rattle.std.specs.Prelude.{◌≡◌, ◌⊎◌, ◌+◌, ◌&&◌, ◌||◌, ◌==◌, ℕ, Bool, true, false, not, List, [], ◌∷◌, ◌++◌, length, take, drop}
use Rattle.std.specs.List.{AllByRecursion}
use Rattle.text_lines.specs.LineGrammar.{IsComment, IsGap, IsPlainSpelling, IsWordEnd, ends_word}
use Rattle.text_marks.specs.TextParts.{AreBounds, LacksLine}
use Rattle.text_marks.specs.declared.marks.Mark.{Mark}

-- bytes `from` up to `to` of a text
abbrev pub bytes_between : ℕ → ℕ → List ℕ → List ℕ
bytes_between from to text = drop from (take to text)

-- ---- literals

-- Whether a backslash stands before what follows these bytes of a literal. A backslash after a backslash is no such
-- one. The first argument says it of what stands before the bytes.
abbrev pub escapes : Bool → List ℕ → Bool
escapes before [] = before
escapes before (b ∷ bytes) = escapes (not before && (b == 92)) bytes

-- whether no quotation mark among these bytes closes the literal: each has a backslash before it
abbrev pub is_open : Bool → List ℕ → Bool
is_open before [] = true
is_open before (b ∷ bytes) = (before || not (b == 34)) && is_open (not before && (b == 92)) bytes

-- a quotation mark, bytes up to the one that closes it, and what follows without a gap
abbrev pub IsClosed : List ℕ → Type 0
IsClosed word =
    (inside tail : List ℕ) × (word ≡ 34 ∷ (inside ++ 34 ∷ tail)) × (is_open false inside ≡ true) × (escapes false inside ≡ false)
    × AllByRecursion (λ b. ends_word b ≡ false) tail

-- a quotation mark that nothing closes up to the line's end
abbrev pub IsUnclosed : List ℕ → List ℕ → Type 0
IsUnclosed word rest = (inside : List ℕ) × (word ≡ 34 ∷ inside) × (is_open false inside ≡ true) × (rest ≡ [])

-- ---- words

-- The bytes are a word before the rest of its line: they go on to a blank, a comment or the line's end, except that
-- quotation marks hold blanks together.
abbrev pub IsWordText : List ℕ → List ℕ → Type 0
IsWordText word rest = IsWordEnd rest × (IsPlainSpelling word ⊎ (IsClosed word ⊎ IsUnclosed word rest))

-- the next word of a line that ends at `end`, from a place on
abbrev pub IsNextWord : List ℕ → (line at end : ℕ) → Mark → Type 0
IsNextWord text line at end mark =
    (gap word rest : List ℕ) × (bytes_between at end text ≡ gap ++ (word ++ rest)) × IsGap gap × IsWordText word rest
    × (mark ≡ record { line = line; from = at + length gap; to = at + length gap + length word })

-- no word is left from the place on: only blanks, and maybe a comment
abbrev pub HasNoWord : List ℕ → (at end : ℕ) → Type 0
HasNoWord text at end = (gap comment : List ℕ) × (bytes_between at end text ≡ gap ++ comment) × IsGap gap × IsComment comment

-- the next words of a line that ends at `end`, from the place `at` up to the place `to`, which is the end of the last
-- one
abbrev pub AreNextWords : List ℕ → (line end at : ℕ) → List Mark → (to : ℕ) → Type 0
AreNextWords text line end at [] to = at ≡ to
AreNextWords text line end at (word ∷ words) to = IsNextWord text line at end word × AreNextWords text line end word.to words to

-- all words of the line that has this number, or none if no line has it
abbrev pub AreAllWords : List ℕ → ℕ → List Mark → Type 0
AreAllWords text line words =
    (LacksLine text line × (words ≡ []))
    ⊎ ((from end at : ℕ) × AreBounds text line from end × AreNextWords text line end from words at × HasNoWord text at end)
