-- A text as its lines, and the words that they have.
use Rattle.std.specs.Prelude.{◌≡◌, ◌≢◌, ◌⊎◌, ◌==◌, ℕ, if◌then◌else◌, List, [], ◌∷◌}
use Rattle.text_lines.specs.LineGrammar.{LineWord, IsLine}

-- puts a byte before the first line
abbrev pub with_front : ℕ → List (List ℕ) → List (List ℕ)
with_front b [] = (b ∷ []) ∷ []
with_front b (line ∷ lines) = (b ∷ line) ∷ lines

-- A line feed ends a line; the last line may lack one.
abbrev pub lines_of : List ℕ → List (List ℕ)
lines_of [] = []
lines_of (b ∷ bytes) = if b == 10 then [] ∷ lines_of bytes else with_front b (lines_of bytes)

-- a line without the carriage return at its end
abbrev pub trimmed : List ℕ → List ℕ
trimmed [] = []
trimmed (b ∷ []) = if b == 13 then [] else b ∷ []
trimmed (b ∷ c ∷ bytes) = b ∷ trimmed (c ∷ bytes)

abbrev pub HasWords : List ℕ → List LineWord → Type 0
HasWords line words = IsLine (trimmed line) words

-- The lines have these words, line after line; lines without words are skipped.
abbrev pub Say : List (List ℕ) → List (List LineWord) → Type 0
Say [] said = said ≡ []
Say (line ∷ lines) said =
    (HasWords line [] × Say lines said)
    ⊎ ((words : List LineWord) × (others : List (List LineWord)) × (said ≡ words ∷ others) × (words ≢ []) × HasWords line words × Say lines others)
