use Rattle.pact_record.specs.Widths.{AreWide}
use Rattle.group_tests.proofs.tables.table.Given as goal

abbrev pub invariant-loop-number : goal.invariant-loop-number
invariant-loop-number l = AreWide 2 l.rows
