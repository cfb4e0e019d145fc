use Rattle.std.proofs.Common.{rules, ◌<◌, ◌+◌, ◌*◌, Err, ap, sym, ◌∙◌, arith}
use Rattle.std.proofs.lemmas.Result.{err_from_is_err_and}
use Rattle.tac_syntax.specs.declared.statements.Stmt.{Stmt}
use Rattle.tac_syntax.specs.Code.{count_of}
use Rattle.tac_syntax.specs.Coding.{tall}
use Rattle.tac_syntax.specs.Places.{Place}
use Rattle.tac_syntax.specs.Rules.{breaks}
use Rattle.tac_syntax.specs.Trees.{first_line, only}
use Rattle.tac_validate.specs.Stands.{place_of}
use Rattle.tac_validate.specs.Walks.{walked}
use Rattle.tac_syntax.proofs.Bodies.{tall-only-le}
use Rattle.tac_validate.proofs.LeftStatements.{goes_on-next, goes_on-found, goes_on-number}
use Rattle.tac_validate.proofs.WalksOfBodies.{walked-body, walked-other, walked-again}
use Rattle.tac_validate.proofs.walks.+walk.Goals as goal

pub walk_body-walk_stmt-requires : goal.walk_body-walk_stmt-requires
walk_body-walk_stmt-requires t c =
    let items = c.stmts-stmt-items.result.now in
    let inside = tall-only-le items c.loop-stmt.stmt-index c.stmt-item.result c.loop-stmt-test.true in
    let found = ap (λ (s : Stmt). tall (only s)) c.stmt-item.is in
    let below : 2 * tall (only c.stmt-item.result) < 2 * tall c.args.body.now + 1 = omega (arith, inside, found, ap tall c.stmts-stmt-items.ensures) in
    let last = goes_on-number c.args.rule c.args.place c.args.number items c.loop-stmt.next c.loop-stmt.stmt-index c.stmt-item.result c.loop-stmt.invariant c.loop-stmt-test.true c.stmt-item.is in
    (search (rules, below), (omega (arith, last, ap count_of c.stmts-stmt-items.ensures, c.requires.numbered), c.loop-stmt.invariant.around))

pub walk_body-returns-in_err-next : goal.walk_body-returns-in_err-next
walk_body-returns-in_err-next t c =
    let p = err_from_is_err_and c.from_residual.result c.from_residual.ensures.1 in
    let found = goes_on-found c.args.rule c.args.place c.args.number c.stmts-stmt-items.result.now c.loop-stmt.next c.loop-stmt.stmt-index c.in_err-next.field-0.0 c.stmt-item.result
    c.loop-stmt.invariant c.loop-stmt-test.true c.stmt-item.is (sym c.in_err-next.ensures) in
    p.1 ∙ ap Err p.2 ∙ sym found ∙ ap (walked c.args.rule c.args.number (place_of c.args.place)) c.stmts-stmt-items.ensures

pub walk_body-loop-stmt-preserved : goal.walk_body-loop-stmt-preserved
walk_body-loop-stmt-preserved t c =
    goes_on-next c.args.rule c.args.place c.args.number c.stmts-stmt-items.result.now c.loop-stmt.next c.loop-stmt.stmt-index c.in_ok-next.next c.stmt-item.result
    c.loop-stmt.invariant c.loop-stmt-test.true c.stmt-item.is (sym c.in_ok-next.ensures)

pub walk_stmt-returns-in_err-inside_other-in-If : goal.walk_stmt-returns-in_err-inside_other-in-If
walk_stmt-returns-in_err-inside_other-in-If t c =
    let p = err_from_is_err_and c.from_residual.result c.from_residual.ensures.1 in
    let keeps = sym (ap (λ (s : Stmt). breaks c.args.rule c.args.number (place_of c.args.place) (first_line s)) c.in-If.is) ∙ sym c.is_broken.ensures ∙ c.if-is_broken.false in
    let inside = ap (λ (q : Place). walked c.args.rule (c.args.number + 1) q c.in-If.body) (sym c.in_if.ensures) ∙ sym c.in_err-inside_other-in-If.ensures in
    let found = walked-body c.args.rule c.args.number c.in_err-inside_other-in-If.field-0.0 (place_of c.args.place) c.in-If.on c.in-If.body c.in-If.other keeps inside in
    p.1 ∙ ap Err p.2 ∙ sym found ∙ ap (λ (s : Stmt). walked c.args.rule c.args.number (place_of c.args.place) (only s)) (sym c.in-If.is)

pub walk_stmt-returns-in_ok-inside_other-in-If : goal.walk_stmt-returns-in_ok-inside_other-in-If
walk_stmt-returns-in_ok-inside_other-in-If t c =
    let keeps = sym (ap (λ (s : Stmt). breaks c.args.rule c.args.number (place_of c.args.place) (first_line s)) c.in-If.is) ∙ sym c.is_broken.ensures ∙ c.if-is_broken.false in
    let inside = ap (λ (q : Place). walked c.args.rule (c.args.number + 1) q c.in-If.body) (sym c.in_if.ensures) ∙ sym c.in_ok-inside_other-in-If.ensures in
    let found = walked-other c.args.rule c.args.number c.in_ok-inside_other-in-If.inside_other (place_of c.args.place) c.in-If.on c.in-If.body c.in-If.other keeps inside in
    c.walk_body-in-If.ensures
    ∙ ap (λ (q : Place). walked c.args.rule c.in_ok-inside_other-in-If.inside_other q c.in-If.other) c.in_if-in-If.ensures
    ∙ sym found
    ∙ ap (λ (s : Stmt). walked c.args.rule c.args.number (place_of c.args.place) (only s)) (sym c.in-If.is)

pub walk_stmt-returns-in-Repeat : goal.walk_stmt-returns-in-Repeat
walk_stmt-returns-in-Repeat t c =
    let keeps = sym (ap (λ (s : Stmt). breaks c.args.rule c.args.number (place_of c.args.place) (first_line s)) c.in-Repeat.is) ∙ sym c.is_broken.ensures ∙ c.if-is_broken.false in
    c.walk_body-in-Repeat.ensures
    ∙ ap (λ (q : Place). walked c.args.rule (c.args.number + 1) q c.in-Repeat.body) c.in_repeat.ensures
    ∙ sym (walked-again c.args.rule c.args.number (place_of c.args.place) c.in-Repeat.count c.in-Repeat.body keeps)
    ∙ ap (λ (s : Stmt). walked c.args.rule c.args.number (place_of c.args.place) (only s)) (sym c.in-Repeat.is)
