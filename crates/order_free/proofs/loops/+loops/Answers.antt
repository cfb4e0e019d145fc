use Rattle.std.proofs.Common.{rules, arith, ◌≡◌, ◌<◌, ◌+◌, ◌-◌, length}
use Rattle.order_free.specs.Views.{registers_of}
use Rattle.order_free.proofs.StatementsInTurn.{smaller-only, AreRegistersInRange-only}
use Rattle.order_free.proofs.FreeLoops.{free-if, not_free-if, free-repeat, free-each, live-at, free-at, not_free-at}
use Rattle.order_free.proofs.loops.+loops.Goals as goal

pub are_its_loops_free-returns-then-are_loops_free : goal.are_its_loops_free-returns-then-are_loops_free
are_its_loops_free-returns-then-are_loops_free t c =
    free-if c.in-If.on c.in-If.body c.in-If.other (registers_of c.args.behind.now) c.args.stmt.now c.are_loops_free-then-are_loops_free.result c.in-If.is (c.are_loops_free.ensures.0 c.if-are_loops_free.true)
    c.are_loops_free-then-are_loops_free.ensures

pub are_its_loops_free-returns-else-are_loops_free : goal.are_its_loops_free-returns-else-are_loops_free
are_its_loops_free-returns-else-are_loops_free t c =
    not_free-if c.in-If.on c.in-If.body c.in-If.other (registers_of c.args.behind.now) c.args.stmt.now c.are_loops_free.result c.in-If.is c.if-are_loops_free.false c.are_loops_free.ensures

pub are_its_loops_free-returns-in-Repeat : goal.are_its_loops_free-returns-in-Repeat
are_its_loops_free-returns-in-Repeat t c =
    free-repeat c.in-Repeat.count c.in-Repeat.body (registers_of c.args.behind.now) (registers_of c.live_at_end.result) c.args.stmt.now c.are_loops_free-in-Repeat.result c.in-Repeat.is c.live_at_end.ensures
    c.are_loops_free-in-Repeat.ensures

pub are_its_loops_free-returns-then-is_loop_free : goal.are_its_loops_free-returns-then-is_loop_free
are_its_loops_free-returns-then-is_loop_free t c =
    free-each c.in-Each.name c.in-Each.list c.in-Each.body (registers_of c.args.behind.now) (registers_of c.live_at_end-then-is_loop_free.result) c.args.stmt.now c.are_loops_free-then-is_loop_free.result c.in-Each.is
    (c.is_loop_free.ensures.0 c.if-is_loop_free.true) c.live_at_end-then-is_loop_free.ensures c.are_loops_free-then-is_loop_free.ensures

pub are_loops_free-are_its_loops_free-requires : goal.are_loops_free-are_its_loops_free-requires
are_loops_free-are_its_loops_free-requires t c =
    let items = c.stmts-stmts.result.now in
    let at = c.loop-n.n - 1 in
    let below : at < length items = omega (arith, c.loop-n-test.true, c.loop-n.auto.n) in
    let smaller = smaller-only items at c.index-stmts-n.result c.args.body.now below c.index-stmts-n.is c.stmts-stmts.ensures in
    (search (rules, smaller), AreRegistersInRange-only items at c.index-stmts-n.result c.args.body.now below c.index-stmts-n.is c.stmts-stmts.ensures c.requires)

pub are_loops_free-live_before-live-requires : goal.are_loops_free-live_before-live-requires
are_loops_free-live_before-live-requires t c =
    let items = c.stmts-stmts.result.now in
    let at = c.loop-n.n - 1 in
    let below : at < length items = omega (arith, c.loop-n-test.true, c.loop-n.auto.n) in
    AreRegistersInRange-only items at c.index-stmts-n.result c.args.body.now below c.index-stmts-n.is c.stmts-stmts.ensures c.requires

pub are_loops_free-returns-then-not-are_its_loops_free : goal.are_loops_free-returns-then-not-are_its_loops_free
are_loops_free-returns-then-not-are_its_loops_free t c =
    let items = c.stmts-stmts.result.now in
    let at = c.loop-n.n - 1 in
    let below : at < length items = omega (arith, c.loop-n-test.true, c.loop-n.auto.n) in
    let next : c.loop-n.n ≡ at + 1 = omega (arith, c.loop-n-test.true) in
    not_free-at items at c.loop-n.n c.index-stmts-n.result (registers_of c.args.behind.now) (registers_of c.loop-n.live) next below c.index-stmts-n.is c.loop-n.invariant.0
    c.are_its_loops_free.result c.if-not-are_its_loops_free.true c.are_its_loops_free.ensures c.args.body.now c.stmts-stmts.ensures

pub are_loops_free-loop-n-preserved : goal.are_loops_free-loop-n-preserved
are_loops_free-loop-n-preserved t c =
    let items = c.stmts-stmts.result.now in
    let at = c.loop-n.n - 1 in
    let below : at < length items = omega (arith, c.loop-n-test.true, c.loop-n.auto.n) in
    let next : c.loop-n.n ≡ at + 1 = omega (arith, c.loop-n-test.true) in (
      live-at items at c.loop-n.n c.index-stmts-n.result (registers_of c.args.behind.now) (registers_of c.loop-n.live) next below c.index-stmts-n.is c.loop-n.invariant.0
          (registers_of c.live_before-live.result) c.live_before-live.ensures,
      free-at items at c.loop-n.n c.index-stmts-n.result (registers_of c.args.behind.now) (registers_of c.loop-n.live) next below c.index-stmts-n.is c.loop-n.invariant.0
          (c.are_its_loops_free.ensures.0 c.if-not-are_its_loops_free.false) c.loop-n.invariant.1,
    )
