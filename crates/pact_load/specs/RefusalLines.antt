-- The lines that say why there is no text.
use Rattle.std.specs.Prelude.{◌++◌, ◌==◌, ℕ, List, [], ◌∷◌, cond, codes, decimal}

abbrev pub usage_line : List ℕ
usage_line = codes "usage: pact COMMAND ARGUMENTS\n"

abbrev pub unread_line : List ℕ → List ℕ
unread_line name = codes "cannot read " ++ (name ++ codes "\n")

abbrev pub long_line : List ℕ → ℕ → List ℕ
long_line name limit = name ++ (codes " is longer than " ++ (decimal limit ++ codes " bytes\n"))

-- the part of a line after the name of a file whose text is faulty
abbrev pub fault_text : ℕ → ℕ → List ℕ
fault_text line what = codes ":" ++ (decimal line ++ (codes ": text fault " ++ (decimal what ++ codes "\n")))

abbrev pub text_line : List ℕ → ℕ → ℕ → List ℕ
text_line name line what = name ++ fault_text line what

-- the part of a line after the name of a function that breaks a rule
abbrev pub break_text : ℕ → ℕ → List ℕ
break_text code at = codes ": V" ++ (decimal code ++ (codes " at statement " ++ (decimal at ++ codes "\n")))

abbrev pub function_line : List ℕ → ℕ → ℕ → List ℕ
function_line name code at = codes "function " ++ (name ++ break_text code at)

-- the name in a line; a program without exactly one sink has no declaration to name
abbrev pub told_name : List ℕ → List ℕ
told_name [] = codes "program"
told_name (b ∷ bytes) = b ∷ bytes

abbrev pub program_line : List ℕ → ℕ → List ℕ
program_line name code = told_name name ++ (codes ": P" ++ (decimal code ++ codes "\n"))

-- the line for a name that no source of the program has
abbrev pub unnamed_line : List ℕ → List ℕ
unnamed_line name = name ++ codes ": P11\n"

-- the part of a line after the name of a source with a bad row
abbrev pub row_text : ℕ → ℕ → ℕ → List ℕ
row_text row column why = codes ": row " ++ (decimal row ++ (codes " column " ++ (decimal column ++ (codes ": why " ++ (decimal why ++ codes "\n")))))

abbrev pub source_line : List ℕ → ℕ → ℕ → ℕ → List ℕ
source_line name row column why = codes "source " ++ (name ++ row_text row column why)

-- the lines of the statuses that no file's content decides; the name is that of the file opened last
abbrev pub line_of : ℕ → List ℕ → List ℕ
line_of status name =
    cond (status == 1) (codes "out of memory\n") (
    cond (status == 2) usage_line (
    cond (status == 3) (unread_line name) (
    cond (status == 4) (codes "cannot write\n") [])))
