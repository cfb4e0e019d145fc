use Rattle.std.proofs.Common.{rules, ◌≤◌, sym, subst}
use Rattle.tac_syntax.specs.Code.{Code, nesting}
use Rattle.tac_syntax.specs.Trees.{only, code_of}
use Rattle.tac_syntax.specs.declared.statements.Stmt.{Stmt}
use Rattle.tac_syntax.proofs.Bodies.{nesting-only-le}
use Rattle.tac_flow.proofs.sharing.+numbers.Goals as goal

pub takes_numbers-takes_number-requires : goal.takes_numbers-takes_number-requires
takes_numbers-takes_number-requires t c =
    let items = c.stmts-stmt-items.result.now in
    let stmt = c.stmt-item.result in
    let inside = nesting-only-le items c.loop-stmt.stmt-index stmt c.loop-stmt-test.true in
    let own = subst (λ (s : Stmt). nesting (only s) ≤ nesting (code_of items)) (sym c.stmt-item.is) inside in
    let less = subst (λ (b : Code). nesting (only stmt) ≤ nesting b) c.stmts-stmt-items.ensures own in
    search (rules, less)
