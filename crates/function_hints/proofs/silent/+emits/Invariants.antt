use Rattle.std.proofs.Common.{◌+◌, ◌*◌}
use Rattle.tac_syntax.specs.Coding.{tall}
use Rattle.tac_syntax.specs.Trees.{only}
use Rattle.function_hints.proofs.silent.+emits.Given as goal

abbrev pub decreases-emits : goal.decreases-emits
decreases-emits l = 2 * tall (only l.stmt.now)

abbrev pub decreases-has_emit : goal.decreases-has_emit
decreases-has_emit l = 2 * tall l.body.now + 1
