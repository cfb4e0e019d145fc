-- Limits of operands that are numbers.
use Rattle.std.specs.Prelude.{ℕ}

-- the greatest seed
abbrev pub seed_limit : ℕ
seed_limit = 2147483646

-- the most rows
abbrev pub row_limit : ℕ
row_limit = 1000000

-- the most rounds
abbrev pub round_limit : ℕ
round_limit = 1000
