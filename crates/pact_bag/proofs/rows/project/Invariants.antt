use Rattle.std.proofs.Common.{◌≡◌, map, take}
use Rattle.pact_bag.specs.Rows.{cut}
use Rattle.pact_bag.proofs.rows.project.Given as goal

abbrev pub invariant-loop-row : goal.invariant-loop-row
invariant-loop-row l = l.made ≡ map (cut l.fields) (take l.row-index l.row-items)
