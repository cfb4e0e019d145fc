use Rattle.std.proofs.Common.{rules}
use Rattle.order_free.proofs.StatementsInTurn.{smaller-only}
use Rattle.function_hints.proofs.least.+least.Goals as goal

pub walk-walk_one-requires : goal.walk-walk_one-requires
walk-walk_one-requires t c =
    let smaller = smaller-only c.stmts-stmt-items.result.now c.loop-stmt.stmt-index c.stmt-item.result c.args.body.now c.loop-stmt-test.true c.stmt-item.is c.stmts-stmt-items.ensures in
    search (rules, smaller)
