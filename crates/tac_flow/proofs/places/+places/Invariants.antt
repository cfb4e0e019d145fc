use Rattle.std.proofs.Common.{◌≡◌, ◌+◌, ◌*◌, drop}
use Rattle.tac_syntax.specs.Code.{nesting}
use Rattle.tac_syntax.specs.Trees.{only, code_of}
use Rattle.tac_flow.specs.Memos.{places}
use Rattle.tac_flow.proofs.places.+places.Given as goal

abbrev pub invariant-places_left-loop-stmt : goal.invariant-places_left-loop-stmt
invariant-places_left-loop-stmt l = l.left + places l.least (code_of l.stmt-items) ≡ l.fn.room + places l.least (code_of (drop l.stmt-index l.stmt-items))

abbrev pub decreases-left_by_stmt : goal.decreases-left_by_stmt
decreases-left_by_stmt l = 3 * nesting (only l.stmt.now)

abbrev pub decreases-places_left : goal.decreases-places_left
decreases-places_left l = 3 * nesting l.body.now + 1

abbrev pub decreases-left_by_loop : goal.decreases-left_by_loop
decreases-left_by_loop l = 3 * nesting l.body.now + 2
