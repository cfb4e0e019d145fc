use Rattle.std.proofs.Common.{◌+◌, ◌*◌}
use Rattle.tac_syntax.specs.Coding.{tall}
use Rattle.tac_syntax.specs.Trees.{only}
use Rattle.function_hints.proofs.statements.+times.Given as goal

abbrev pub decreases-times_by : goal.decreases-times_by
decreases-times_by l = 2 * tall (only l.stmt.now)

abbrev pub decreases-times_assigned : goal.decreases-times_assigned
decreases-times_assigned l = 2 * tall l.body.now + 1
