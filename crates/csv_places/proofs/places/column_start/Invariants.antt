use Rattle.std.proofs.Common.{◌≤◌}
use Rattle.csv_places.proofs.places.column_start.Given as goal

abbrev pub invariant-loop : goal.invariant-loop
invariant-loop l = l.from ≤ l.end
