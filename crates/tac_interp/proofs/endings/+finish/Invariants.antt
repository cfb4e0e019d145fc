use Rattle.std.proofs.Common.{◌+◌, ◌*◌, drop}
use Rattle.tac_syntax.specs.Code.{nesting}
use Rattle.tac_syntax.specs.Trees.{only, code_of}
use Rattle.tac_syntax.proofs.RunsSoFar.{RunsOn}
use Rattle.tac_interp.proofs.endings.+finish.Given as goal

abbrev pub invariant-finish_body-loop-at : goal.invariant-finish_body-loop-at
invariant-finish_body-loop-at l = RunsOn (code_of (drop l.at l.stmts)) (code_of l.stmts) l.machine l.fn.machine

abbrev pub decreases-finish_stmt : goal.decreases-finish_stmt
decreases-finish_stmt l = 2 * nesting (only l.stmt.now) + 1

abbrev pub decreases-finish_body : goal.decreases-finish_body
decreases-finish_body l = 2 * nesting l.body.now + 2
