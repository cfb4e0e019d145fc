use Rattle.pact_record.specs.Widths.{AreWide}
use Rattle.group_tests.proofs.tables.colliding.Given as goal

abbrev pub invariant-loop-n : goal.invariant-loop-n
invariant-loop-n l = AreWide 2 l.rows
