-- Names and names of files.
use Rattle.std.specs.Prelude.{ℕ, Bool, true, false, ◌&&◌, ◌||◌, ◌==◌, nat_le, List, [], ◌∷◌, length}
use Rattle.pact_record.specs.Limits.{word_limit}

abbrev pub all_bytes : (ℕ → Bool) → List ℕ → Bool
all_bytes test [] = true
all_bytes test (b ∷ bs) = test b && all_bytes test bs

abbrev pub is_small_letter : ℕ → Bool
is_small_letter b = nat_le 97 b && nat_le b 122

abbrev pub is_capital_letter : ℕ → Bool
is_capital_letter b = nat_le 65 b && nat_le b 90

abbrev pub is_digit : ℕ → Bool
is_digit b = nat_le 48 b && nat_le b 57

-- After its first letter a name has small letters, digits and underscores.
abbrev pub is_name_byte : ℕ → Bool
is_name_byte b = is_small_letter b || is_digit b || (b == 95)

-- a small letter, and at most 31 bytes after it
abbrev pub is_name : List ℕ → Bool
is_name [] = false
is_name (b ∷ bs) = is_small_letter b && all_bytes is_name_byte bs && nat_le (length bs) 31

-- letters, digits, full stops, underscores, hyphens and slashes
abbrev pub is_file_byte : ℕ → Bool
is_file_byte b = is_small_letter b || is_capital_letter b || is_digit b || (b == 46) || (b == 95) || (b == 45) || (b == 47)

abbrev pub is_file_name : List ℕ → Bool
is_file_name name = nat_le 1 (length name) && nat_le (length name) word_limit && all_bytes is_file_byte name
