-- Sums of emits that stop at the same number.
use Rattle.std.proofs.Common.{◌≡◌, ◌≤◌, ◌<◌, ◌+◌, ℕ, min, max, List, length, drop, get_or, ap, ◌∙◌, arith}
use Rattle.tac_syntax.specs.declared.statements.Stmt.{Stmt}
use Rattle.std.proofs.lemmas.List.{drop_all}
use Rattle.tac_syntax.specs.declared.statements.LoopList.{LoopList}
use Rattle.tac_syntax.specs.declared.statements.LoopList.TheVariants.{Group, Left, Right}
use Rattle.tac_syntax.specs.Code.{Code, stop, plain, branch, again, each}
use Rattle.tac_syntax.specs.Trees.{Statement, one_line, choice, turning, going_through, onto, statement_of, only, code_of}
use Rattle.tac_syntax.proofs.Bodies.{code_of-drop}
use Rattle.tac_syntax.specs.EmitBounds.{many, capped, at_least_one, least_emits, most_emits}

pub least-capped : (c : Code) → least_emits c ≤ many
least-capped stop = omega arith
least-capped (plain a next) = omega arith
least-capped (branch on body other next) = omega arith
least-capped (again count body next) = omega arith
least-capped (each name list body next) = omega arith

pub most-capped : (c : Code) → most_emits c ≤ many
most-capped stop = omega arith
most-capped (plain a next) = omega arith
most-capped (branch on body other next) = omega arith
most-capped (again count body next) = omega arith
most-capped (each name list body next) = omega arith

pub choice_least : (on : ℕ) (body other : Code) → min (least_emits body) (least_emits other) ≡ least_emits (branch on body other stop)
choice_least on body other = omega (arith, least-capped body, least-capped other)

pub choice_most : (on : ℕ) (body other : Code) → max (most_emits body) (most_emits other) ≡ most_emits (branch on body other stop)
choice_most on body other = omega (arith, most-capped body, most-capped other)

least-onto : (s : Statement) (next : Code) → least_emits (onto s next) ≡ capped (least_emits (onto s stop) + least_emits next)
least-onto (one_line a) next = omega arith
least-onto (choice on body other) next = omega arith
least-onto (turning count body) next = omega arith
least-onto (going_through name list body) next = omega arith

most-onto : (s : Statement) (next : Code) → most_emits (onto s next) ≡ capped (most_emits (onto s stop) + most_emits next)
most-onto (one_line a) next = omega arith
most-onto (choice on body other) next = omega arith
most-onto (turning count body) next = omega arith
most-onto (going_through name list body) next = omega arith

-- what was found so far, and what is left, are the whole
pub record SumsOn (left whole : Code) (least most : ℕ) : Type 0 where
  pub low : capped (least + least_emits left) ≡ least_emits whole
  pub high : capped (most + most_emits left) ≡ most_emits whole
  pub few : (least ≤ many) × (most ≤ many)

pub sums_start : (c : Code) → SumsOn c c 0 0
sums_start c = record { low = omega (arith, least-capped c); high = omega (arith, most-capped c); few = (omega arith, omega arith) }

pub sums_next : (stmts : List Stmt) (i : ℕ) (stmt : Stmt) (whole : Code) (l m a b p q : ℕ) → i < length stmts → stmt ≡ get_or stmts i stmt → a ≡ least_emits (only stmt) → b ≡ most_emits (only stmt)
    → p ≡ capped (l + a) → q ≡ capped (m + b) → SumsOn (code_of (drop i stmts)) whole l m → SumsOn (code_of (drop (i + 1) stmts)) whole p q
sums_next stmts i stmt whole l m a b p q lt e ea eb ep eq h =
    let rest = code_of (drop (i + 1) stmts) in
    let low = ap least_emits (code_of-drop stmts i stmt lt e) ∙ least-onto (statement_of stmt) rest in
    let high = ap most_emits (code_of-drop stmts i stmt lt e) ∙ most-onto (statement_of stmt) rest in
    record { low = omega (arith, low, h.low, ea, ep); high = omega (arith, high, h.high, eb, eq); few = (omega (arith, ep), omega (arith, eq)) }

pub sums_end : (stmts : List Stmt) (i : ℕ) (whole : Code) (l m : ℕ) → length stmts ≤ i → SumsOn (code_of (drop i stmts)) whole l m → (l ≡ least_emits whole) × (m ≡ most_emits whole)
sums_end stmts i whole l m past h =
    let low = ap (λ (x : List Stmt). least_emits (code_of x)) (drop_all i stmts past) in
    let high = ap (λ (x : List Stmt). most_emits (code_of x)) (drop_all i stmts past) in
    (omega (arith, low, h.low, h.few), omega (arith, high, h.high, h.few))

pub through_least : (name : ℕ) (list : LoopList) (body : Code) → at_least_one list (least_emits body) ≡ least_emits (each name list body stop)
through_least name Group body = omega (arith, least-capped body)
through_least name Left body = omega arith
through_least name Right body = omega arith
