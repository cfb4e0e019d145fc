use Rattle.std.proofs.Common.{ap, arith}
use Rattle.tac_syntax.specs.Code.{length_of}
use Rattle.tac_syntax.proofs.Bodies.{length_of-code_of}
use Rattle.tac_syntax.proofs.statements.Body.len.Goals as goal

pub returns : goal.returns
returns c =
    let same = ap length_of c.self.view_is in
    omega (arith, c.len.ensures, length_of-code_of c.self.inside.stmts.items, same)
