-- The canonical spelling of one line.
use Rattle.std.specs.Prelude.{◌≡◌, ◌==◌, ℕ, ◌*◌, false, if◌then◌else◌, List, [], ◌∷◌, ◌++◌, map, flat_map, replicate, IsUtf8}
use Rattle.std.specs.List.{AllByRecursion}
use Rattle.tac_syntax.specs.Grammar.{IsLiteral}
use Rattle.text_lines.specs.LineGrammar.{LineWord, plain_word, literal_word, IsPlainSpelling, has_return}

-- ---- lines of words

-- one space between words
abbrev pub spaced : List (List ℕ) → List ℕ
spaced [] = []
spaced (w ∷ ws) = w ++ flat_map (λ v. 32 ∷ v) ws

-- two spaces for each open block, the words, and a line feed
abbrev pub line_text : ℕ → List (List ℕ) → List ℕ
line_text depth words = (replicate (2 * depth) 32 ++ spaced words) ++ 10 ∷ []

-- The spelling of a byte in a literal. A backslash, quotation mark, line feed, carriage return or tab is spelled by two
-- bytes. Any other byte is its own spelling.
abbrev pub escaped : ℕ → List ℕ
escaped b =
    if b == 92 then 92 ∷ 92 ∷ []
    else (if b == 34 then 92 ∷ 34 ∷ []
    else (if b == 10 then 92 ∷ 110 ∷ []
    else (if b == 13 then 92 ∷ 114 ∷ []
    else (if b == 9 then 92 ∷ 116 ∷ [] else b ∷ []))))

-- between quotation marks
abbrev pub literal : List ℕ → List ℕ
literal bytes = 34 ∷ (flat_map escaped bytes ++ 34 ∷ [])

-- ---- lines of line words

abbrev pub word_text : LineWord → List ℕ
word_text (plain_word bytes) = bytes
word_text (literal_word bytes) = literal bytes

-- two spaces for each open block, and one between words, without the line feed
abbrev pub canonical_line : ℕ → List LineWord → List ℕ
canonical_line depth words = replicate (2 * depth) 32 ++ spaced (map word_text words)

-- the canonical line with its line feed
abbrev pub line_spelling : ℕ → List LineWord → List ℕ
line_spelling depth words = line_text depth (map word_text words)

-- a word that can occur in a line
abbrev pub IsLineWord : LineWord → Type 0
IsLineWord (plain_word bytes) = IsPlainSpelling bytes × IsUtf8 bytes × (has_return bytes ≡ false)
IsLineWord (literal_word bytes) = IsLiteral bytes

abbrev pub AreLineWords : List LineWord → Type 0
AreLineWords words = AllByRecursion IsLineWord words
