use Rattle.std.proofs.Common.{◌≡◌, ◌<◌, ◌-◌, false, get_or, length}
use Rattle.csv_places.specs.Scanning.{IsAfterRows, is_line_end}
use Rattle.csv_places.proofs.places.row_start.Given as goal

abbrev pub invariant-loop-n : goal.invariant-loop-n
invariant-loop-n l = IsAfterRows l.text l.at (l.n - 1) × (l.at < length l.text → is_line_end (get_or l.text l.at 0) ≡ false)
