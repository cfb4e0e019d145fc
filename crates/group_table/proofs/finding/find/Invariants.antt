use Rattle.pact_record.specs.Record.{key_of}
use Rattle.local_strategy.specs.Grouped.{order_of}
use Rattle.group_table.proofs.FoundByCode.{IsLeft, places}
use Rattle.group_table.proofs.finding.find.Given as goal

abbrev pub invariant-loop-at : goal.invariant-loop-at
invariant-loop-at l = IsLeft (order_of l.groups.keys l.groups.groups) (key_of l.keys l.row) l.at

abbrev pub decreases-loop-at : goal.decreases-loop-at
decreases-loop-at l = places l.at
