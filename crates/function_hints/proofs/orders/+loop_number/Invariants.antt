use Rattle.std.proofs.Common.{◌+◌, ◌*◌}
use Rattle.tac_syntax.specs.Coding.{tall}
use Rattle.tac_syntax.specs.Trees.{only}
use Rattle.function_hints.proofs.orders.+loop_number.Given as goal

abbrev pub decreases-first_loop_in : goal.decreases-first_loop_in
decreases-first_loop_in l = 2 * tall (only l.stmt.now)

abbrev pub decreases-first_loop : goal.decreases-first_loop
decreases-first_loop l = 2 * tall l.body.now + 1
