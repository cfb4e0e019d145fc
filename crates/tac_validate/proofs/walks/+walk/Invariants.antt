use Rattle.std.proofs.Common.{◌+◌, ◌*◌, drop}
use Rattle.tac_syntax.specs.Coding.{tall}
use Rattle.tac_syntax.specs.Trees.{only}
use Rattle.tac_validate.proofs.LeftStatements.{GoesOn}
use Rattle.tac_validate.proofs.walks.+walk.Given as goal

abbrev pub decreases-walk_body : goal.decreases-walk_body
decreases-walk_body l = 2 * tall l.body.now + 1

abbrev pub decreases-walk_stmt : goal.decreases-walk_stmt
decreases-walk_stmt l = 2 * tall (only l.stmt.now)

abbrev pub invariant-walk_body-loop-stmt : goal.invariant-walk_body-loop-stmt
invariant-walk_body-loop-stmt l = GoesOn l.rule l.place l.number l.stmt-items l.next (drop l.stmt-index l.stmt-items)
