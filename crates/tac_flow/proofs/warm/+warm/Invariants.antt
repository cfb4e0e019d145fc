use Rattle.std.proofs.Common.{◌+◌, ◌*◌, max, drop}
use Rattle.tac_syntax.specs.Code.{nesting}
use Rattle.tac_syntax.specs.Trees.{only, code_of}
use Rattle.tac_flow.specs.Gathering.{noted_of}
use Rattle.tac_flow.specs.Views.{state_of, scope_of, sides_of}
use Rattle.tac_flow.specs.Memos.{memos_of}
use Rattle.tac_flow.proofs.WarmWalks.{WarmsOn, IsUnderWay}
use Rattle.tac_flow.proofs.warm.+warm.Given as goal

abbrev pub invariant-warm_body-loop-stmt : goal.invariant-warm_body-loop-stmt
invariant-warm_body-loop-stmt l =
    WarmsOn (scope_of l.scope) l.scope.least (sides_of l.sides) (code_of (drop l.stmt-index l.stmt-items)) (code_of l.stmt-items) l.n (state_of l.fn.facts) (memos_of l.fn.memos) (noted_of l.fn.noted) l.next (state_of l.facts) (memos_of l.memos) (noted_of l.noted)

abbrev pub invariant-settle-loop : goal.invariant-settle-loop
invariant-settle-loop l =
    IsUnderWay (scope_of l.scope) l.scope.least (sides_of l.inside) l.body l.name l.n (state_of l.fn.facts) (memos_of l.fn.memos) (state_of l.facts) (memos_of l.memos)

abbrev pub decreases-warm_stmt : goal.decreases-warm_stmt
decreases-warm_stmt l = 4 * nesting (only l.stmt.now) + 1

abbrev pub decreases-warm_body : goal.decreases-warm_body
decreases-warm_body l = 4 * nesting l.body.now + 2

abbrev pub decreases-settle : goal.decreases-settle
decreases-settle l = 4 * nesting l.body.now + 3

abbrev pub decreases-warm_repeat : goal.decreases-warm_repeat
decreases-warm_repeat l = 4 * nesting l.body.now + 4

abbrev pub decreases-warm_each : goal.decreases-warm_each
decreases-warm_each l = 4 * nesting l.body.now + 4

abbrev pub decreases-warm_if : goal.decreases-warm_if
decreases-warm_if l = 4 * max (nesting l.body.now) (nesting l.other.now) + 3
