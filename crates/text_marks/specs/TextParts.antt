-- Parts of a text, its lines, and the text with another word at a place.
use Rattle.std.specs.Prelude.{◌≡◌, ◌≤◌, ◌<◌, ◌⊎◌, ◌+◌, ◌&&◌, ◌||◌, ◌==◌, ℕ, Bool, false, not, if◌then◌else◌, List, [], ◌∷◌, ◌++◌, length, take, drop, codes}
use Rattle.std.specs.List.{count_by}
use Rattle.text_lines.specs.TextLines.{lines_of, trimmed}
use Rattle.text_marks.specs.declared.marks.Mark.{Mark}

-- ---- parts of texts

-- bytes `from` up to `to` are in the text
abbrev pub IsInside : List ℕ → ℕ → ℕ → Type 0
IsInside text from to = (from ≤ to) × (to ≤ length text)

-- a part of a line between two places, with at least one byte
abbrev pub IsWordOf : ℕ → ℕ → ℕ → Mark → Type 0
IsWordOf line at end mark = (mark.line ≡ line) × (at ≤ mark.from) × (mark.from < mark.to) × (mark.to ≤ end)

abbrev pub line_feeds : List ℕ → ℕ
line_feeds bytes = count_by (λ b. b == 10) bytes

-- parts of a line between two places, from the left
abbrev pub AreWordsOf : ℕ → ℕ → ℕ → List Mark → Type 0
AreWordsOf line at end [] = at ≤ end
AreWordsOf line at end (word ∷ words) = IsWordOf line at end word × AreWordsOf line word.to end words

-- the number of the line, from 1, that a place is on
abbrev pub line_number : ℕ → List ℕ → ℕ
line_number at text = line_feeds (take at text) + 1

-- The line begins at this place: the lines before it are those before the place.
pub record IsLineStart (text : List ℕ) (line at : ℕ) : Type 0 where
  pub within : at ≤ length text
  pub before : List (List ℕ)
  pub lines : lines_of text ≡ before ++ lines_of (drop at text)
  pub numbered : line ≡ length before + 1

-- The line begins at the first place and, without its line end, ends at the second.
pub record AreBounds (text : List ℕ) (line from to : ℕ) : Type 0 where
  pub start : IsLineStart text line from
  pub inside : List ℕ
  pub later : List (List ℕ)
  pub lines : lines_of (drop from text) ≡ inside ∷ later
  pub ends : to ≡ from + length (trimmed inside)
  pub part : drop from (take to text) ≡ trimmed inside

-- the text has no line of this number; lines count from 1
abbrev pub LacksLine : List ℕ → ℕ → Type 0
LacksLine text line = (line < 1) ⊎ (length (lines_of text) < line)

-- The mark is in the line that it names, before the line end.
pub record LiesInLine (text : List ℕ) (mark : Mark) : Type 0 where
  pub from : ℕ
  pub to : ℕ
  pub bounds : AreBounds text mark.line from to
  pub after : from ≤ mark.from
  pub before : mark.to ≤ to

-- ---- cut texts

-- What ends a trial: a blank, the line's end and an empty line. A text that ends too early has its fault at that last
-- line, so the line that is tried has only faults of its own.
abbrev pub trial_end : List ℕ
trial_end = 32 ∷ 10 ∷ 10 ∷ []

-- the text up to a place
abbrev pub cut_text : ℕ → List ℕ → List ℕ
cut_text at text = take at text ++ trial_end

-- ---- other words at a place

-- whether a byte ends a word or a line before a word
abbrev pub is_gap : ℕ → Bool
is_gap b = (b == 32) || (b == 9) || (b == 10)

-- whether a text doesn't end with a gap
abbrev pub joins : List ℕ → Bool
joins [] = false
joins (b ∷ []) = not (is_gap b)
joins (b ∷ c ∷ bytes) = joins (c ∷ bytes)

-- the text before the mark, and a blank if the mark is empty and a word there would join the one before it
abbrev pub before_word : ℕ → ℕ → List ℕ → List ℕ
before_word from to text = take from text ++ (if (from == to) && joins (take from text) then codes " " else [])

-- whether a byte of a word begins the bytes
abbrev pub goes_on : List ℕ → Bool
goes_on [] = false
goes_on (b ∷ bytes) = not (is_gap b || (b == 35) || (b == 13))

abbrev pub behind_word : ℕ → ℕ → List ℕ → List ℕ
behind_word from to text = (if (from == to) && goes_on (drop to text) then codes " " else []) ++ drop to text

-- the text with a word instead of the marked part
abbrev pub text_with : ℕ → ℕ → List ℕ → List ℕ → List ℕ
text_with from to word text = before_word from to text ++ (word ++ behind_word from to text)

-- the text before the marked part, and a word
abbrev pub cut_with : ℕ → ℕ → List ℕ → List ℕ → List ℕ
cut_with from to word text = before_word from to text ++ (word ++ trial_end)
