use Rattle.std.proofs.Common.{◌+◌, ◌*◌}
use Rattle.tac_syntax.specs.Coding.{tall}
use Rattle.tac_syntax.specs.Trees.{only}
use Rattle.function_hints.proofs.orders.+first.Given as goal

abbrev pub decreases-first_reader_in : goal.decreases-first_reader_in
decreases-first_reader_in l = 2 * tall (only l.stmt.now)

abbrev pub decreases-first_reader : goal.decreases-first_reader
decreases-first_reader l = 2 * tall l.body.now + 1
