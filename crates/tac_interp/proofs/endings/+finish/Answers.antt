use Rattle.std.proofs.Common.{◌≡◌, ◌≤◌, ◌<◌, ◌-◌, length, drop, rules, arith, sym, subst, ℕ}
use Rattle.tac_syntax.specs.declared.statements.Stmt.{Stmt}
use Rattle.tac_syntax.specs.Code.{Code, nesting}
use Rattle.tac_syntax.specs.Trees.{only, code_of}
use Rattle.tac_syntax.proofs.Bodies.{nesting-only-le}
use Rattle.tac_syntax.proofs.RunsSoFar.{CanStart-next, RunsOn, RunsOn-next}
use Rattle.tac_interp.proofs.endings.+finish.Goals as goal

pub finish_body-run_stmt-requires : goal.finish_body-run_stmt-requires
finish_body-run_stmt-requires t c =
    let items = c.stmts-stmts.result.now in
    let within : c.loop-at.at < length items = omega (arith, c.loop-at-test.true) in
    CanStart-next items c.loop-at.at c.index-stmts-at.result _ _ _ within c.index-stmts-at.is c.loop-at.invariant

pub finish_body-loop-at-preserved : goal.finish_body-loop-at-preserved
finish_body-loop-at-preserved t c =
    let items = c.stmts-stmts.result.now in
    let within : c.loop-at.at < length items = omega (arith, c.loop-at-test.true) in
    RunsOn-next items c.loop-at.at c.index-stmts-at.result _ _ _ _ within c.index-stmts-at.is c.in_ok-run_stmt.ensures c.loop-at.invariant

pub finish_body-finish_stmt-requires : goal.finish_body-finish_stmt-requires
finish_body-finish_stmt-requires t c =
    let items = c.stmts-stmts.result.now in
    let last = length items - 1 in
    let stmt = c.index-stmts-last.result in
    let within : last < length items = omega (arith, c.if-stmts-eq0.false) in
    let there : c.loop-at.at ≡ last = omega (arith, c.loop-at-test.false, c.loop-at.auto.at-end) in
    let left = subst (λ (n : ℕ). RunsOn (code_of (drop n items)) (code_of items) c.loop-at.machine c.args.machine.now) there c.loop-at.invariant in
    let inside = nesting-only-le items last stmt within in
    let own = subst (λ (s : Stmt). nesting (only s) ≤ nesting (code_of items)) (sym c.index-stmts-last.is) inside in
    let less = subst (λ (b : Code). nesting (only stmt) ≤ nesting b) c.stmts-stmts.ensures own in
    (search (rules, less), CanStart-next items last stmt _ _ _ within c.index-stmts-last.is left)
