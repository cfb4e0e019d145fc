use Rattle.std.proofs.Common.{◌≡◌, drop}
use Rattle.ship_strategy.specs.EarlierFindings.{first_found}
use Rattle.ship_strategy.proofs.earlier_findings.first_found.Given as goal

abbrev pub invariant-loop-table : goal.invariant-loop-table
invariant-loop-table l = first_found (drop l.table-index l.tables) l.at l.left l.right ≡ first_found l.tables l.at l.left l.right
