use Rattle.pact_record.specs.Widths.{AreWide}
use Rattle.thread_tests.proofs.lines_tests.rows_of.Given as goal

abbrev pub invariant-loop-n : goal.invariant-loop-n
invariant-loop-n l = AreWide 2 l.rows
