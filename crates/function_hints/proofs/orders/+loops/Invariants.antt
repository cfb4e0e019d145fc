use Rattle.std.proofs.Common.{◌+◌, ◌*◌}
use Rattle.tac_syntax.specs.Coding.{tall}
use Rattle.tac_syntax.specs.Trees.{only}
use Rattle.function_hints.proofs.orders.+loops.Given as goal

abbrev pub decreases-loops_by : goal.decreases-loops_by
decreases-loops_by l = 2 * tall (only l.stmt.now)

abbrev pub decreases-loops_in : goal.decreases-loops_in
decreases-loops_in l = 2 * tall l.body.now + 1
