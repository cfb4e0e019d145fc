use Rattle.std.proofs.Common.{rules, arith, ◌<◌, ◌+◌, ◌*◌, ◌∙◌, ap, sym}
use Rattle.tac_syntax.specs.Coding.{tall}
use Rattle.tac_syntax.specs.declared.statements.Stmt.{Stmt}
use Rattle.tac_syntax.specs.Trees.{only, code_of}
use Rattle.tac_syntax.proofs.Bodies.{tall-only-le}
use Rattle.tac_syntax.specs.EmitBounds.{least_emits, most_emits, at_least_one}
use Rattle.emit_bounds.proofs.EmitSums.{sums_start, sums_next, sums_end, choice_least, choice_most, through_least}
use Rattle.emit_bounds.proofs.counting.+emits.Goals as goal

pub emits_in-emits_by-next-requires : goal.emits_in-emits_by-next-requires
emits_in-emits_by-next-requires t c =
    let stmts = c.stmts-stmt-items.result.now in
    let stmt = c.stmt-item.result in
    let at = c.loop-stmt.stmt-index in
    let found = ap (λ (s : Stmt). tall (only s)) c.stmt-item.is in
    let whole = ap tall c.stmts-stmt-items.ensures in
    let smaller : 2 * tall (only stmt) < 2 * tall c.args.body.now + 1 = omega (arith, found, whole, tall-only-le stmts at stmt c.loop-stmt-test.true) in
    search (rules, smaller)

pub emits_in-loop-stmt-preserved : goal.emits_in-loop-stmt-preserved
emits_in-loop-stmt-preserved t c =
    sums_next c.stmts-stmt-items.result.now c.loop-stmt.stmt-index c.stmt-item.result _ _ _ _ _ _ _ c.loop-stmt-test.true c.stmt-item.is c.emits_by-next.ensures.least c.emits_by-next.ensures.most
    c.plus.ensures c.plus-in-loop-stmt.ensures c.loop-stmt.invariant

pub emits_in-loop-stmt-init : goal.emits_in-loop-stmt-init
emits_in-loop-stmt-init t c = sums_start (code_of c.stmts-stmt-items.result.now)

pub emits_in-returns-clause-least : goal.emits_in-returns-clause-least
emits_in-returns-clause-least t c =
    (sums_end c.stmts-stmt-items.result.now c.loop-stmt.stmt-index _ _ _ c.loop-stmt-test.false c.loop-stmt.invariant).0 ∙ ap least_emits c.stmts-stmt-items.ensures

pub emits_in-returns-clause-most : goal.emits_in-returns-clause-most
emits_in-returns-clause-most t c =
    (sums_end c.stmts-stmt-items.result.now c.loop-stmt.stmt-index _ _ _ c.loop-stmt-test.false c.loop-stmt.invariant).1 ∙ ap most_emits c.stmts-stmt-items.ensures

pub emits_by-returns-in-If-clause-least : goal.emits_by-returns-in-If-clause-least
emits_by-returns-in-If-clause-least t c =
    let both = choice_least c.in-If.on c.in-If.body c.in-If.other in
    let whole = ap (λ (s : Stmt). least_emits (only s)) c.in-If.is in
    omega (arith, c.min.ensures, c.emits_in-one.ensures.least, c.emits_in-two.ensures.least, both, whole)

pub emits_by-returns-in-If-clause-most : goal.emits_by-returns-in-If-clause-most
emits_by-returns-in-If-clause-most t c =
    let both = choice_most c.in-If.on c.in-If.body c.in-If.other in
    let whole = ap (λ (s : Stmt). most_emits (only s)) c.in-If.is in
    omega (arith, c.max.ensures, c.emits_in-one.ensures.most, c.emits_in-two.ensures.most, both, whole)

pub emits_by-returns-in-Each-clause-least : goal.emits_by-returns-in-Each-clause-least
emits_by-returns-in-Each-clause-least t c =
    c.each_least.ensures ∙ ap (at_least_one c.in-Each.list) c.emits_in-turn-in-Each.ensures.least ∙ through_least c.in-Each.name c.in-Each.list c.in-Each.body
    ∙ ap (λ (s : Stmt). least_emits (only s)) (sym c.in-Each.is)
