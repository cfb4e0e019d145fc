use Rattle.std.proofs.Common.{ap, ◌∙◌, arith}
use Rattle.tac_syntax.specs.Code.{Code, joined, nesting, count_of}
use Rattle.tac_syntax.specs.Trees.{code_of, only}
use Rattle.tac_syntax.proofs.Bodies.{code_of-last, nesting-joined, count_of-joined}
use Rattle.tac_syntax.proofs.statements.Body.push.Goals as goal

pub invariant_of-self : goal.invariant_of-self
invariant_of-self c =
    let before = code_of c.self.inside.stmts.items in
    let now = ap code_of c.in-Ok.ensures.items ∙ code_of-last c.self.inside.stmts.items c.args.stmt in
    let deep = ap nesting now ∙ nesting-joined before (only c.args.stmt) in
    let many = ap count_of now ∙ count_of-joined before (only c.args.stmt) in
    let size = c.in-Some.ensures in
    let whole = ap count_of c.self.view_is in
    (omega (arith, deep), omega arith, omega (arith, many, size, whole))

pub returns-in-Ok-clause-ok : goal.returns-in-Ok-clause-ok
returns-in-Ok-clause-ok c =
    ap code_of c.in-Ok.ensures.items ∙ code_of-last c.self.inside.stmts.items c.args.stmt ∙ ap (λ (b : Code). joined b (only c.args.stmt)) c.self.view_is
