use Rattle.std.proofs.Common.{◌+◌, ◌*◌}
use Rattle.tac_syntax.specs.Coding.{tall}
use Rattle.tac_syntax.specs.Trees.{only}
use Rattle.function_hints.proofs.orders.+changed.Given as goal

abbrev pub decreases-changed_by : goal.decreases-changed_by
decreases-changed_by l = 2 * tall (only l.stmt.now)

abbrev pub decreases-changed_in : goal.decreases-changed_in
decreases-changed_in l = 2 * tall l.body.now + 1
