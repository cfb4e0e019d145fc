use Rattle.std.proofs.Common.{◌≤◌, length, IfSome}
use Rattle.csv_places.proofs.headers.is_row_of_names.Given as goal

abbrev pub invariant-loop : goal.invariant-loop
invariant-loop l = IfSome l.next (λ spot. spot.from ≤ spot.to) × IfSome l.next (λ spot. spot.to ≤ length l.text)
