use Rattle.std.proofs.Common.{rules, arith, ◌<◌, ◌≤◌, ◌+◌, ◌*◌, ap}
use Rattle.tac_syntax.specs.declared.statements.Stmt.{Stmt}
use Rattle.tac_syntax.specs.Code.{nesting}
use Rattle.tac_syntax.specs.Coding.{tall}
use Rattle.tac_syntax.specs.Trees.{only}
use Rattle.tac_syntax.proofs.Bodies.{tall-only-le, nesting-only-le}
use Rattle.tac_text.specs.FunctionSpelling.{deepest}
use Rattle.tac_text.proofs.WrittenFunctions.{written_more}
use Rattle.tac_text.proofs.function_writing.+write.Goals as goal

pub write_lines-write_stmt-requires : goal.write_lines-write_stmt-requires
write_lines-write_stmt-requires t c =
    let stmts = c.stmts-stmt-items.result.now in
    let stmt = c.stmt-item.result in
    let found = ap (λ (s : Stmt). tall (only s)) c.stmt-item.is in
    let deep = ap (λ (s : Stmt). nesting (only s)) c.stmt-item.is in
    let whole = ap tall c.stmts-stmt-items.ensures in
    let all = ap nesting c.stmts-stmt-items.ensures in
    let smaller : 2 * tall (only stmt) < 2 * tall c.args.body.now + 1 =
    omega (arith, found, whole, tall-only-le stmts c.loop-stmt.stmt-index stmt c.loop-stmt-test.true) in
    let shallow : c.args.depth + nesting (only stmt) ≤ deepest =
    omega (arith, deep, all, nesting-only-le stmts c.loop-stmt.stmt-index stmt c.loop-stmt-test.true, c.requires) in
    search (rules, smaller, shallow)

pub write_lines-loop-stmt-preserved : goal.write_lines-loop-stmt-preserved
write_lines-loop-stmt-preserved t c =
    written_more c.loop-stmt.out c.write_stmt.new.out _ c.args.depth c.stmts-stmt-items.result.now c.loop-stmt.stmt-index c.stmt-item.result
    c.loop-stmt-test.true c.stmt-item.is c.loop-stmt.invariant c.in_ok-write_stmt.ensures
