use Rattle.std.proofs.Common.{rules, arith, ◌<◌, ◌-◌, length}
use Rattle.order_free.proofs.StatementsInTurn.{smaller-only, AreRegistersInRange-only}
use Rattle.order_free.proofs.liveness.+live.Goals as goal

pub live_at_start-live_before-live-requires : goal.live_at_start-live_before-live-requires
live_at_start-live_before-live-requires t c =
    let items = c.stmts-stmts.result.now in
    let at = c.loop-n.n - 1 in
    let below : at < length items = omega (arith, c.loop-n-test.true, c.loop-n.auto.n) in
    let smaller = smaller-only items at c.index-stmts-n.result c.args.body.now below c.index-stmts-n.is c.stmts-stmts.ensures in
    (search (rules, smaller), AreRegistersInRange-only items at c.index-stmts-n.result c.args.body.now below c.index-stmts-n.is c.stmts-stmts.ensures c.requires)
