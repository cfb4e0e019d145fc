-- Limits of a run.
use Rattle.std.specs.Prelude.{ℕ}

-- the most records of a batch
abbrev pub batch_limit : ℕ
batch_limit = 1024
