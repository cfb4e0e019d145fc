use Rattle.std.proofs.Common.{rules}
use Rattle.order_free.proofs.StatementsInTurn.{smaller-only}
use Rattle.order_free.proofs.uses.+first.Goals as goal

pub has_first-reads_first-requires : goal.has_first-reads_first-requires
has_first-reads_first-requires t c =
    let smaller = smaller-only c.stmts-stmt-items.result.now c.loop-stmt.stmt-index c.stmt-item.result c.args.body.now c.loop-stmt-test.true c.stmt-item.is c.stmts-stmt-items.ensures in
    search (rules, smaller)
