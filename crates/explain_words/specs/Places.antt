-- Where a place of a text is, as it is printed.
use Rattle.std.specs.Prelude.{◌+◌, ◌||◌, ◌==◌, ℕ, Bool, if◌then◌else◌, nat_le, nat_lt, List, [], ◌∷◌, ◌++◌, take, codes, decimal}

-- whether a byte is a line feed or a carriage return
abbrev pub is_line_end : ℕ → Bool
is_line_end b = (b == 10) || (b == 13)

-- whether a byte of UTF-8 begins a character
abbrev pub begins_character : ℕ → Bool
begins_character b = nat_lt b 128 || nat_le 192 b

-- the column after one more byte
abbrev pub next_column : ℕ → ℕ → ℕ
next_column column b = if is_line_end b then 1 else (if begins_character b then column + 1 else column)

-- the column after some bytes
abbrev pub column_after : ℕ → List ℕ → ℕ
column_after column [] = column
column_after column (b ∷ bytes) = column_after (next_column column b) bytes

-- The column of a place of a text: one more than the characters before it on its line.
abbrev pub column_at : ℕ → List ℕ → ℕ
column_at at text = column_after 1 (take at text)

-- the line after one more byte
abbrev pub next_line : ℕ → ℕ → ℕ
next_line line b = if b == 10 then line + 1 else line

-- the line after some bytes
abbrev pub line_after : ℕ → List ℕ → ℕ
line_after line [] = line
line_after line (b ∷ bytes) = line_after (next_line line b) bytes

-- The line of a place of a text: one more than the line feeds before it.
abbrev pub line_at : ℕ → List ℕ → ℕ
line_at at text = line_after 1 (take at text)

-- FILE:LINE:COLUMN and a line end
abbrev pub place_line : List ℕ → (line column : ℕ) → List ℕ
place_line file line column = file ++ (codes ":" ++ (decimal line ++ (codes ":" ++ (decimal column ++ 10 ∷ []))))
