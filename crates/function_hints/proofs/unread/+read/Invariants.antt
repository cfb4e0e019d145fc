use Rattle.std.proofs.Common.{◌+◌, ◌*◌}
use Rattle.tac_syntax.specs.Coding.{tall}
use Rattle.tac_syntax.specs.Trees.{only}
use Rattle.function_hints.proofs.unread.+read.Given as goal

abbrev pub decreases-read_by : goal.decreases-read_by
decreases-read_by l = 2 * tall (only l.stmt.now)

abbrev pub decreases-read_in : goal.decreases-read_in
decreases-read_in l = 2 * tall l.body.now + 1
