use Rattle.std.proofs.Common.{◌+◌, ◌*◌}
use Rattle.tac_syntax.specs.Coding.{tall}
use Rattle.tac_syntax.specs.Trees.{only}
use Rattle.program_hints.proofs.columns.+gets.Given as goal

abbrev pub decreases-gets_by : goal.decreases-gets_by
decreases-gets_by l = 2 * tall (only l.stmt.now)

abbrev pub decreases-gets_in : goal.decreases-gets_in
decreases-gets_in l = 2 * tall l.body.now + 1
