use Rattle.std.proofs.Common.{rules, ◌≡◌, ◌||◌, ◌+◌, drop, subst}
use Rattle.tac_syntax.specs.Code.{Code}
use Rattle.tac_syntax.specs.Trees.{code_of, statement_of}
use Rattle.tac_syntax.proofs.Bodies.{code_of-drop}
use Rattle.order_free.specs.Accumulators.{occurs_otherwise}
use Rattle.order_free.specs.Views.{registers_of}
use Rattle.order_free.proofs.OccurInTurn.{otherwise_next}
use Rattle.order_free.proofs.StatementsInTurn.{smaller-only, AreRegistersInRange-only}
use Rattle.order_free.proofs.accumulators.+otherwise.Goals as goal

pub occur_otherwise_in-occur_otherwise-requires : goal.occur_otherwise_in-occur_otherwise-requires
occur_otherwise_in-occur_otherwise-requires t c =
    let items = c.stmts-stmt-items.result.now in
    let at = c.loop-stmt.stmt-index in
    let smaller = smaller-only items at c.stmt-item.result c.args.body.now c.loop-stmt-test.true c.stmt-item.is c.stmts-stmt-items.ensures in
    (search (rules, smaller), AreRegistersInRange-only items at c.stmt-item.result c.args.body.now c.loop-stmt-test.true c.stmt-item.is c.stmts-stmt-items.ensures c.requires)

pub occur_otherwise_in-loop-stmt-preserved : goal.occur_otherwise_in-loop-stmt-preserved
occur_otherwise_in-loop-stmt-preserved t c r =
    let items = c.stmts-stmt-items.result.now in
    let stmt = c.stmt-item.result in
    let at = c.loop-stmt.stmt-index in
    let rest = code_of-drop items at stmt c.loop-stmt-test.true c.stmt-item.is in
    let found = registers_of c.loop-stmt.found r in
    let whole = occurs_otherwise c.args.by r (code_of items) in
    otherwise_next c.args.by r (statement_of stmt) (code_of (drop (at + 1) items)) found (registers_of c.occur_otherwise.result r) (registers_of c.union-found.result r) whole
    (c.union-found.ensures r) (c.occur_otherwise.ensures r) (subst (λ (b : Code). (found || occurs_otherwise c.args.by r b) ≡ whole) rest (c.loop-stmt.invariant r))
