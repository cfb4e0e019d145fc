use Rattle.std.proofs.Common.{◌-◌, ◌+◌, ◌*◌, drop}
use Rattle.tac_syntax.specs.Code.{nesting}
use Rattle.tac_syntax.specs.Trees.{only, code_of}
use Rattle.tac_syntax.proofs.RunsSoFar.{RunsOn, TurnsOn, GoesOn}
use Rattle.tac_interp.proofs.runs.+run.Given as goal

abbrev pub invariant-run_body-loop-stmt : goal.invariant-run_body-loop-stmt
invariant-run_body-loop-stmt l = RunsOn (code_of (drop l.stmt-index l.stmt-items)) (code_of l.stmt-items) l.machine l.fn.machine

abbrev pub invariant-run_each-loop-row : goal.invariant-run_each-loop-row
invariant-run_each-loop-row l = GoesOn l.name (drop l.row-index l.row-items) l.row-items l.body l.machine l.fn.machine

abbrev pub invariant-run_repeat-loop : goal.invariant-run_repeat-loop
invariant-run_repeat-loop l = TurnsOn (l.count - l.counter) l.count l.body l.machine l.fn.machine

abbrev pub decreases-run_stmt : goal.decreases-run_stmt
decreases-run_stmt l = 3 * nesting (only l.stmt.now) + 1

abbrev pub decreases-run_body : goal.decreases-run_body
decreases-run_body l = 3 * nesting l.body.now + 2

abbrev pub decreases-run_repeat : goal.decreases-run_repeat
decreases-run_repeat l = 3 * nesting l.body.now + 3

abbrev pub decreases-run_each : goal.decreases-run_each
decreases-run_each l = 3 * nesting l.body.now + 3
