use Rattle.std.proofs.Common.{◌≡◌, take}
use Rattle.tac_syntax.proofs.statements.+tree.Given as goal

abbrev pub invariant-Body::copy-loop-stmt : goal.invariant-Body::copy-loop-stmt
invariant-Body::copy-loop-stmt l = l.stmts.items ≡ take l.stmt-index l.stmt-items
