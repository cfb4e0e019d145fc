use Rattle.std.proofs.Common.{◌≡◌, ◌+◌, ap, subst, arith}
use Rattle.tac_syntax.specs.Code.{Code, length_of}
use Rattle.tac_syntax.specs.Trees.{before, skip}
use Rattle.tac_syntax.proofs.Bodies.{length_of-code_of, skip-code_of}
use Rattle.tac_syntax.proofs.statements.Body.at.Goals as goal

pub index-requires : goal.index-requires
index-requires c =
    let same = ap length_of c.self.view_is in
    omega (arith, length_of-code_of c.self.inside.stmts.items, same, c.requires)

pub returns : goal.returns
returns c =
    let same = ap length_of c.self.view_is in
    let found = skip-code_of c.self.inside.stmts.items c.args.n (c.args.n + 1) c.index.result.now (omega arith) (omega (arith, length_of-code_of c.self.inside.stmts.items, same, c.requires)) c.index.ensures in
    subst (λ (b : Code). skip c.args.n b ≡ before c.index.result.now (skip (c.args.n + 1) b)) c.self.view_is found
