use Rattle.std.proofs.Common.{rules}
use Rattle.order_free.proofs.StatementsInTurn.{smaller-only}
use Rattle.function_hints.proofs.statements.+times.Goals as goal

pub times_assigned-times_by-requires : goal.times_assigned-times_by-requires
times_assigned-times_by-requires t c =
    let smaller = smaller-only c.stmts-stmt-items.result.now c.loop-stmt.stmt-index c.stmt-item.result c.args.body.now c.loop-stmt-test.true c.stmt-item.is c.stmts-stmt-items.ensures in
    search (rules, smaller)
