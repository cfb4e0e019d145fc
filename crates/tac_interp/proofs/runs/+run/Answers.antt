use Rattle.std.proofs.Common.{rules, arith, ◌≤◌, subst, sym, ap, ◌∙◌}
use Rattle.tac_syntax.specs.declared.statements.Stmt.{Stmt}
use Rattle.tac_syntax.specs.Code.{Code, nesting}
use Rattle.tac_syntax.specs.Trees.{only, code_of}
use Rattle.tac_syntax.specs.Exec.{exec}
use Rattle.tac_syntax.proofs.Bodies.{nesting-only-le}
use Rattle.tac_syntax.proofs.RunsSoFar.{CanStart-next, RunsOn-next, TurnsOn-next, GoesOn-next}
use Rattle.tac_interp.proofs.runs.+run.Goals as goal

pub run_body-run_stmt-requires : goal.run_body-run_stmt-requires
run_body-run_stmt-requires t c =
    let items = c.stmts-stmt-items.result.now in
    let stmt = c.stmt-item.result in
    let inside = nesting-only-le items c.loop-stmt.stmt-index stmt c.loop-stmt-test.true in
    let own = subst (λ (s : Stmt). nesting (only s) ≤ nesting (code_of items)) (sym c.stmt-item.is) inside in
    let less = subst (λ (b : Code). nesting (only stmt) ≤ nesting b) c.stmts-stmt-items.ensures own in
    (search (rules, less), CanStart-next items c.loop-stmt.stmt-index stmt _ _ _ c.loop-stmt-test.true c.stmt-item.is c.loop-stmt.invariant)

pub run_body-loop-stmt-preserved : goal.run_body-loop-stmt-preserved
run_body-loop-stmt-preserved t c =
    RunsOn-next c.stmts-stmt-items.result.now c.loop-stmt.stmt-index c.stmt-item.result _ _ _ _ c.loop-stmt-test.true c.stmt-item.is c.in_ok-run_stmt.ensures c.loop-stmt.invariant

pub run_each-loop-row-preserved : goal.run_each-loop-row-preserved
run_each-loop-row-preserved t c =
    GoesOn-next _ _ _ _ _ _ _ _ c.loop-row-test.true c.row-item.is (c.in_ok-run_body.ensures ∙ ap (exec c.args.body.now) c.in_ok-bind.ensures) c.loop-row.invariant

pub run_repeat-loop-preserved : goal.run_repeat-loop-preserved
run_repeat-loop-preserved t c =
    TurnsOn-next _ _ _ _ _ _ _ (omega arith) c.in_ok-run_body.ensures c.loop.invariant

pub run_repeat-run_body-requires : goal.run_repeat-run_body-requires
run_repeat-run_body-requires t c = (search rules, c.loop.invariant.ready)
