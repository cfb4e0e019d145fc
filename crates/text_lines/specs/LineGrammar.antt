-- One line of a text, without its line end: its words, the bytes that spell them, and what can be wrong with it.
use Rattle.std.specs.Prelude.{◌≡◌, ◌≤◌, ◌⊎◌, ℕ, Bool, true, false, ◌||◌, ◌==◌, if◌then◌else◌, List, [], ◌∷◌, ◌++◌, length, Option, Some, None, IsUtf8, bytes_eq}
use Rattle.std.specs.List.{AllByRecursion, list_any}
use Rattle.pact_record.specs.Limits.{text_limit}
-- A `LineWord` is a plain word as the line spells it, or the bytes that a literal denotes.
pub use Rattle.text_lines.specs.declared.line_words.LineWord.{LineWord}
pub use Rattle.text_lines.specs.declared.line_words.LineWord.TheVariants.{Plain as plain_word, Literal as literal_word}

-- ---- words

-- The word is plain and equal to `name`. A literal never is, even with the same bytes.
abbrev pub is_plain : List ℕ → LineWord → Bool
is_plain name (plain_word word) = bytes_eq word name
is_plain name (literal_word bytes) = false

-- a space or a tab
abbrev pub is_blank : ℕ → Bool
is_blank b = (b == 32) || (b == 9)

-- A word ends before a blank or a comment.
abbrev pub ends_word : ℕ → Bool
ends_word b = is_blank b || (b == 35)

-- not empty, and doesn't begin with a quotation mark
abbrev pub IsPlainSpelling : List ℕ → Type 0
IsPlainSpelling [] = ⊥
IsPlainSpelling (b ∷ bytes) = ((b == 34) ≡ false) × AllByRecursion (λ c. ends_word c ≡ false) (b ∷ bytes)

-- In a literal each byte is its own spelling, except a backslash, a quotation mark and a carriage return.
abbrev pub needs_escape : ℕ → Bool
needs_escape b = (b == 92) || (b == 34) || (b == 13)

-- the byte that an escape denotes, by the byte after its backslash
abbrev pub escaped_byte : ℕ → Option ℕ
escaped_byte e =
    if e == 92 then Some 92
    else (if e == 34 then Some 34
    else (if e == 110 then Some 10
    else (if e == 114 then Some 13
    else (if e == 116 then Some 9 else None))))

-- The text is the byte's own spelling, or its escape.
abbrev pub SpellsByte : List ℕ → ℕ → Type 0
SpellsByte text b = ((text ≡ b ∷ []) × (needs_escape b ≡ false)) ⊎ ((e : ℕ) × (text ≡ 92 ∷ e ∷ []) × (escaped_byte e ≡ Some b))

abbrev pub SpellsBytes : List ℕ → List ℕ → Type 0
SpellsBytes text [] = text ≡ []
SpellsBytes text (b ∷ bytes) = (first rest : List ℕ) × (text ≡ first ++ rest) × SpellsByte first b × SpellsBytes rest bytes

abbrev pub SpellsWord : List ℕ → LineWord → Type 0
SpellsWord text (plain_word bytes) = (text ≡ bytes) × IsPlainSpelling bytes
SpellsWord text (literal_word bytes) = (inside : List ℕ) × (text ≡ 34 ∷ (inside ++ 34 ∷ [])) × SpellsBytes inside bytes × (length bytes ≤ text_limit)

-- ---- lines

abbrev pub IsGap : List ℕ → Type 0
IsGap bytes = AllByRecursion (λ b. is_blank b ≡ true) bytes

-- A word may end before these bytes.
abbrev pub IsWordEnd : List ℕ → Type 0
IsWordEnd [] = Unit {0}
IsWordEnd (b ∷ bytes) = ends_word b ≡ true

-- nothing, or bytes that begin with `#`
abbrev pub IsComment : List ℕ → Type 0
IsComment [] = Unit {0}
IsComment (b ∷ bytes) = b ≡ 35

-- alternating blanks and words, then blanks and possibly a comment
abbrev pub SpellsWords : List ℕ → List LineWord → Type 0
SpellsWords line [] = (gap comment : List ℕ) × (line ≡ gap ++ comment) × IsGap gap × IsComment comment
SpellsWords line (word ∷ words) =
    (gap text rest : List ℕ) × (line ≡ gap ++ (text ++ rest)) × IsGap gap × SpellsWord text word × IsWordEnd rest × SpellsWords rest words

-- a carriage return that doesn't belong to the line's end
abbrev pub has_return : List ℕ → Bool
has_return line = list_any (λ b. b == 13) line

abbrev pub IsLine : List ℕ → List LineWord → Type 0
IsLine line words = IsUtf8 line × (has_return line ≡ false) × SpellsWords line words

-- ---- faults

-- fault 1: not UTF-8, or a carriage return
abbrev pub IsGarbled : List ℕ → Type 0
IsGarbled line = (¬ IsUtf8 line) ⊎ (has_return line ≡ true)

-- fault 2: the line doesn't have fault 1, and no words spell it
abbrev pub IsUnspelled : List ℕ → Type 0
IsUnspelled line = (¬ IsGarbled line) × ((words : List LineWord) → ¬ SpellsWords line words)

abbrev pub HasLineFault : ℕ → List ℕ → Type 0
HasLineFault what line = ((what ≡ 1) × IsGarbled line) ⊎ ((what ≡ 2) × IsUnspelled line)
