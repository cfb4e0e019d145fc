use Rattle.std.proofs.Common.{◌+◌, ◌*◌}
use Rattle.tac_syntax.specs.Coding.{tall}
use Rattle.tac_syntax.specs.Trees.{only}
use Rattle.function_hints.proofs.least.+given.Given as goal

abbrev pub decreases-given_by : goal.decreases-given_by
decreases-given_by l = 2 * tall (only l.stmt.now)

abbrev pub decreases-given_in : goal.decreases-given_in
decreases-given_in l = 2 * tall l.body.now + 1
