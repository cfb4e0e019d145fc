use Rattle.std.proofs.Common.{◌-◌, ◌+◌, ◌*◌, max, drop}
use Rattle.tac_syntax.specs.Code.{nesting}
use Rattle.tac_syntax.specs.Trees.{only, code_of}
use Rattle.tac_flow.specs.Walks.{walks_at_most}
use Rattle.tac_flow.specs.Warm.{turn_of}
use Rattle.tac_flow.specs.Gathering.{noted_of}
use Rattle.tac_flow.specs.Views.{state_of, scope_of, sides_of}
use Rattle.tac_flow.proofs.WalkedSoFar.{WalksOn, SettlesOn}
use Rattle.tac_flow.proofs.walks.+walk.Given as goal

abbrev pub invariant-walk_body-loop-stmt : goal.invariant-walk_body-loop-stmt
invariant-walk_body-loop-stmt l =
    WalksOn (scope_of l.scope) (sides_of l.sides) (code_of (drop l.stmt-index l.stmt-items)) (code_of l.stmt-items) (state_of l.facts) (state_of l.fn.facts) (noted_of l.noted) (noted_of l.fn.noted)

abbrev pub invariant-settle-loop : goal.invariant-settle-loop
invariant-settle-loop l = SettlesOn l.scope.fields (turn_of (scope_of l.scope) (sides_of l.inside) l.body l.name) (walks_at_most l.scope.fields - l.counter) (state_of l.facts) (state_of l.fn.facts)

abbrev pub decreases-walk_stmt : goal.decreases-walk_stmt
decreases-walk_stmt l = 4 * nesting (only l.stmt.now) + 1

abbrev pub decreases-walk_body : goal.decreases-walk_body
decreases-walk_body l = 4 * nesting l.body.now + 2

abbrev pub decreases-settle : goal.decreases-settle
decreases-settle l = 4 * nesting l.body.now + 3

abbrev pub decreases-walk_each : goal.decreases-walk_each
decreases-walk_each l = 4 * nesting l.body.now + 4

abbrev pub decreases-walk_if : goal.decreases-walk_if
decreases-walk_if l = 4 * max (nesting l.body.now) (nesting l.other.now) + 3
