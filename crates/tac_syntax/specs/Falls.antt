-- The bodies inside a body are smaller than it.
use Rattle.std.specs.Prelude.{◌≤◌, ◌<◌, List, [], ◌∷◌}
use Rattle.std.proofs.Common.{arith}
use Rattle.tac_syntax.specs.Code.{Code, stop, plain, branch, again, each}
use Rattle.tac_syntax.specs.Coding.{tall}
use Rattle.tac_syntax.specs.Trees.{Statement, one_line, choice, turning, going_through, onto, statement_of, code_of}
use Rattle.tac_syntax.specs.declared.statements.Stmt.{Stmt}
use Rattle.tac_syntax.specs.declared.statements.Stmt.TheVariants.{If, Repeat, Each}
use Rattle.tac_syntax.specs.declared.statements.Body.TheDeep.{deep-Stmt}
use denote.Param.Weighed.{most, w_this}

pub tall_positive : (c : Code) → 0 < tall c
tall_positive stop = omega arith
tall_positive (plain s next) = omega arith
tall_positive (branch on body other next) = omega arith
tall_positive (again count body next) = omega arith
tall_positive (each name list body next) = omega arith

-- what follows a statement is smaller than both together
pub next_less : (s : Statement) (next : Code) → tall next < tall (onto s next)
next_less (one_line s) next = omega arith
next_less (choice on body other) next = omega arith
next_less (turning count body) next = omega arith
next_less (going_through name list body) next = omega arith

weight_less : (stmt : Stmt) (next : Code) → (w_this).weight Stmt deep-Stmt stmt < tall (onto (statement_of stmt) next)
weight_less (If on body other) next = omega (arith, tall_positive next)
weight_less (Repeat count body) next = omega (arith, tall_positive next)
weight_less (Each name list body) next = omega (arith, tall_positive next)
weight_less stmt next = omega arith

pub most_le-tall : (items : List Stmt) → most (λ x. (w_this).weight Stmt deep-Stmt x) items ≤ tall (code_of items)
most_le-tall [] = omega arith
most_le-tall (stmt ∷ stmts) = omega (arith, weight_less stmt (code_of stmts), next_less (statement_of stmt) (code_of stmts), most_le-tall stmts)
