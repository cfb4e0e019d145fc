use Rattle.std.proofs.Common.{◌+◌, ◌*◌}
use Rattle.tac_syntax.specs.Coding.{tall}
use Rattle.tac_syntax.specs.Trees.{only}
use Rattle.function_hints.proofs.statements.+assigned.Given as goal

abbrev pub decreases-assigned_by : goal.decreases-assigned_by
decreases-assigned_by l = 2 * tall (only l.stmt.now)

abbrev pub decreases-assigned_in : goal.decreases-assigned_in
decreases-assigned_in l = 2 * tall l.body.now + 1
