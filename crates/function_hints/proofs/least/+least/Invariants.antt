use Rattle.std.proofs.Common.{◌+◌, ◌*◌}
use Rattle.tac_syntax.specs.Coding.{tall}
use Rattle.tac_syntax.specs.Trees.{only}
use Rattle.function_hints.proofs.least.+least.Given as goal

abbrev pub decreases-walk_one : goal.decreases-walk_one
decreases-walk_one l = 2 * tall (only l.stmt.now)

abbrev pub decreases-walk : goal.decreases-walk
decreases-walk l = 2 * tall l.body.now + 1
