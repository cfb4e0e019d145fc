-- A body, statement by statement.
use Rattle.std.proofs.Common.{◌≡◌, ◌<◌, ◌+◌, ◌*◌, ℕ, zero, suc, List, [], ◌∷◌, length, get_or, sym, ap, subst, arith}
use Rattle.tac_syntax.specs.declared.statements.Stmt.{Stmt}
use Rattle.tac_syntax.specs.Code.{Code, stop}
use Rattle.tac_syntax.specs.Trees.{Statement, one_line, choice, turning, going_through, onto, statement_of, only, code_of}
use Rattle.tac_syntax.specs.Coding.{tall}
use Rattle.tac_syntax.proofs.Bodies.{tall-only-le}
use Rattle.order_free.specs.RegistersInRange.{AreRegistersInRange}

-- a statement is smaller than its body
pub smaller-only : (stmts : List Stmt) (n : ℕ) (stmt : Stmt) (body : Code) → n < length stmts → stmt ≡ get_or stmts n stmt → code_of stmts ≡ body → 2 * tall (only stmt) < 2 * tall body + 1
smaller-only stmts n stmt body lt e whole = omega (arith, ap (λ (s : Stmt). tall (only s)) e, ap tall whole, tall-only-le stmts n stmt lt)

-- ---- registers in range

AreRegistersInRange-first : (s : Statement) (c : Code) → AreRegistersInRange (onto s c) → AreRegistersInRange (onto s stop)
AreRegistersInRange-first (one_line a) c h = (h.0, h.1, tt)
AreRegistersInRange-first (choice on body other) c h = (h.0, h.1, h.2, tt)
AreRegistersInRange-first (turning count body) c h = (h.0, tt)
AreRegistersInRange-first (going_through name list body) c h = (h.0, tt)

AreRegistersInRange-next : (s : Statement) (c : Code) → AreRegistersInRange (onto s c) → AreRegistersInRange c
AreRegistersInRange-next (one_line a) c h = h.2
AreRegistersInRange-next (choice on body other) c h = h.3
AreRegistersInRange-next (turning count body) c h = h.1
AreRegistersInRange-next (going_through name list body) c h = h.1

AreRegistersInRange-at : (stmts : List Stmt) (n : ℕ) (stmt : Stmt) → n < length stmts → stmt ≡ get_or stmts n stmt → AreRegistersInRange (code_of stmts) → AreRegistersInRange (only stmt)
AreRegistersInRange-at [] n stmt lt e h = absurd (omega arith)
AreRegistersInRange-at (s ∷ stmts) zero stmt lt e h = subst (λ (x : Stmt). AreRegistersInRange (only x)) (sym e) (AreRegistersInRange-first (statement_of s) (code_of stmts) h)
AreRegistersInRange-at (s ∷ stmts) (suc n) stmt lt e h = AreRegistersInRange-at stmts n stmt (omega arith) e (AreRegistersInRange-next (statement_of s) (code_of stmts) h)

pub AreRegistersInRange-only : (stmts : List Stmt) (n : ℕ) (stmt : Stmt) (body : Code) → n < length stmts → stmt ≡ get_or stmts n stmt → code_of stmts ≡ body → AreRegistersInRange body → AreRegistersInRange (only stmt)
AreRegistersInRange-only stmts n stmt body lt e whole h = AreRegistersInRange-at stmts n stmt lt e (subst AreRegistersInRange (sym whole) h)
