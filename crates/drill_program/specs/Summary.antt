-- What a drill writes about its run.
use Rattle.std.specs.Prelude.{◌++◌, ◌+◌, ◌*◌, ◌%◌, ◌^◌, ℕ, List, codes, decimal, fold}

-- A check of bytes in 64 bits, from the first byte on. It stays closed, so that no check multiplies numerals.
unfoldable pub check_of : List ℕ → ℕ
check_of bytes = fold (λ h b. (h * 31 + b) % 2 ^ 64) 0 bytes

abbrev pub line : (word : List ℕ) (number : ℕ) → List ℕ
line word number = word ++ (decimal number ++ codes "\n")

-- how many rows went in, how many came out, and the check of the lines that they are written as
abbrev pub summary_text : (rows out : ℕ) (lines : List ℕ) → List ℕ
summary_text rows out lines = line (codes "rows ") rows ++ (line (codes "out ") out ++ line (codes "check ") (check_of lines))
