use Rattle.std.proofs.Common.{◌+◌, ◌*◌}
use Rattle.tac_syntax.specs.Coding.{tall}
use Rattle.tac_syntax.specs.Trees.{only}
use Rattle.function_hints.proofs.orders.+inner.Given as goal

abbrev pub decreases-inner_loop_in : goal.decreases-inner_loop_in
decreases-inner_loop_in l = 2 * tall (only l.stmt.now)

abbrev pub decreases-inner_loop : goal.decreases-inner_loop
decreases-inner_loop l = 2 * tall l.body.now + 1
