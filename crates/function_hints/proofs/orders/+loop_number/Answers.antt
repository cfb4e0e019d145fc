use Rattle.std.proofs.Common.{rules}
use Rattle.order_free.proofs.StatementsInTurn.{smaller-only}
use Rattle.function_hints.proofs.orders.+loop_number.Goals as goal

pub first_loop-first_loop_in-found-requires : goal.first_loop-first_loop_in-found-requires
first_loop-first_loop_in-found-requires t c =
    let smaller = smaller-only c.stmts-stmt-items.result.now c.loop-stmt.stmt-index c.stmt-item.result c.args.body.now c.loop-stmt-test.true c.stmt-item.is c.stmts-stmt-items.ensures in
    search (rules, smaller)
