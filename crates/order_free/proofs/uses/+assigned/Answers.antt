use Rattle.std.proofs.Common.{rules}
use Rattle.order_free.proofs.StatementsInTurn.{smaller-only, AreRegistersInRange-only}
use Rattle.order_free.proofs.uses.+assigned.Goals as goal

pub assigned_in-assigned_by-requires : goal.assigned_in-assigned_by-requires
assigned_in-assigned_by-requires t c =
    let items = c.stmts-stmt-items.result.now in
    let at = c.loop-stmt.stmt-index in
    let smaller = smaller-only items at c.stmt-item.result c.args.body.now c.loop-stmt-test.true c.stmt-item.is c.stmts-stmt-items.ensures in
    (search (rules, smaller), AreRegistersInRange-only items at c.stmt-item.result c.args.body.now c.loop-stmt-test.true c.stmt-item.is c.stmts-stmt-items.ensures c.requires)
