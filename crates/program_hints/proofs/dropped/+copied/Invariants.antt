use Rattle.std.proofs.Common.{◌+◌, ◌*◌}
use Rattle.tac_syntax.specs.Coding.{tall}
use Rattle.tac_syntax.specs.Trees.{only}
use Rattle.program_hints.proofs.dropped.+copied.Given as goal

abbrev pub decreases-copied_by : goal.decreases-copied_by
decreases-copied_by l = 2 * tall (only l.stmt.now)

abbrev pub decreases-copied_in : goal.decreases-copied_in
decreases-copied_in l = 2 * tall l.body.now + 1
