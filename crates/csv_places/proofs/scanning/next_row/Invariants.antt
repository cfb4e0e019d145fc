use Rattle.std.proofs.Common.{ℕ}
use Rattle.csv_places.specs.Scanning.{IsAfterRows}
use Rattle.csv_places.proofs.scanning.next_row.Given as goal

abbrev pub invariant-loop-at : goal.invariant-loop-at
invariant-loop-at l = (index : ℕ) → IsAfterRows l.text l.from index → IsAfterRows l.text l.at index
