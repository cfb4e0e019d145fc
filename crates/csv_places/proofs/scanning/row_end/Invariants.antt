use Rattle.csv_places.proofs.RowsScanned.{IsUnderWay}
use Rattle.csv_places.proofs.scanning.row_end.Given as goal

abbrev pub invariant-loop-at : goal.invariant-loop-at
invariant-loop-at l = IsUnderWay l.text l.from l.at l.state l.fields
