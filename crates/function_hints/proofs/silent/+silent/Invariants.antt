use Rattle.std.proofs.Common.{◌+◌, ◌*◌}
use Rattle.tac_syntax.specs.Coding.{tall}
use Rattle.tac_syntax.specs.Trees.{only}
use Rattle.function_hints.proofs.silent.+silent.Given as goal

abbrev pub decreases-silent_inside : goal.decreases-silent_inside
decreases-silent_inside l = 2 * tall (only l.stmt.now)

abbrev pub decreases-silent_in : goal.decreases-silent_in
decreases-silent_in l = 2 * tall l.body.now + 1
