-- How a range of numbers that may be at a place is printed.
use Rattle.std.specs.Prelude.{◌-◌, ◌&&◌, ◌==◌, ℕ, Bool, if◌then◌else◌, nat_lt, List, ◌++◌, codes, decimal}

-- In words where the numbers are places of keys, fields of a program that has this number of fields, or numbers of
-- fields; otherwise by both ends.
abbrev pub range_text : (low high fields : ℕ) → (is_key : Bool) → List ℕ
range_text low high fields is_key =
    if is_key then codes "the place of a key (0 for the first one)"
    else (if (low == 0) && ((high == 255) && nat_lt 0 fields) then codes "a field (0 to " ++ (decimal (fields - 1) ++ codes ")")
    else (if (low == 1) && (high == 64) then codes "a number of fields (1 to 64, or with `pact 2` 1 to 128)"
    else codes "a number, " ++ (decimal low ++ (codes " to " ++ decimal high))))
