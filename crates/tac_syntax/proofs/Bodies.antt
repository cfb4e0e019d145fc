-- Bodies as lists of statements.
use Rattle.std.proofs.Common.{◌≡◌, ◌≤◌, ◌<◌, ◌+◌, ℕ, zero, suc, max, List, [], ◌∷◌, ◌++◌, length, drop, get_or, refl, ap, sym, ◌∙◌, append_assoc, append-nil, arith}
use Rattle.std.proofs.lemmas.List.{drop_more}
use Rattle.tac_syntax.specs.declared.statements.Stmt.{Stmt}
use Rattle.tac_syntax.specs.Code.{Code, stop, plain, branch, again, each, joined, nesting, count_of, length_of}
use Rattle.tac_syntax.specs.Coding.{tall}
use Rattle.tac_syntax.specs.Places.{Place, placed}
use Rattle.tac_syntax.specs.Falls.{tall_positive, next_less}
use Rattle.tac_syntax.specs.Trees.{Statement, one_line, choice, turning, going_through, onto, statement_of, before, only, code_of, skip}

-- ---- a statement before a body

joined-onto : (s : Statement) (c d : Code) → joined (onto s c) d ≡ onto s (joined c d)
joined-onto (one_line s) c d = refl
joined-onto (choice on body other) c d = refl
joined-onto (turning count body) c d = refl
joined-onto (going_through name list body) c d = refl

length_of-onto : (s : Statement) (c : Code) → length_of (onto s c) ≡ 1 + length_of c
length_of-onto (one_line s) c = refl
length_of-onto (choice on body other) c = refl
length_of-onto (turning count body) c = refl
length_of-onto (going_through name list body) c = refl

skip-onto : (n : ℕ) (s : Statement) (c : Code) → skip (suc n) (onto s c) ≡ skip n c
skip-onto n (one_line s) c = refl
skip-onto n (choice on body other) c = refl
skip-onto n (turning count body) c = refl
skip-onto n (going_through name list body) c = refl

-- ---- one more statement at the end

pub code_of-last : (stmts : List Stmt) (stmt : Stmt) → code_of (stmts ++ stmt ∷ []) ≡ joined (code_of stmts) (only stmt)
code_of-last [] stmt = refl
code_of-last (s ∷ stmts) stmt = ap (before s) (code_of-last stmts stmt) ∙ sym (joined-onto (statement_of s) (code_of stmts) (only stmt))

pub nesting-joined : (c d : Code) → nesting (joined c d) ≡ max (nesting c) (nesting d)
nesting-joined stop d = omega arith
nesting-joined (plain s next) d = nesting-joined next d
nesting-joined (branch on body other next) d = omega (arith, nesting-joined next d)
nesting-joined (again count body next) d = omega (arith, nesting-joined next d)
nesting-joined (each name list body next) d = omega (arith, nesting-joined next d)

pub count_of-joined : (c d : Code) → count_of (joined c d) ≡ count_of c + count_of d
count_of-joined stop d = omega arith
count_of-joined (plain s next) d = omega (arith, count_of-joined next d)
count_of-joined (branch on body other next) d = omega (arith, count_of-joined next d)
count_of-joined (again count body next) d = omega (arith, count_of-joined next d)
count_of-joined (each name list body next) d = omega (arith, count_of-joined next d)

-- ---- statements by their place

pub length_of-code_of : (stmts : List Stmt) → length_of (code_of stmts) ≡ length stmts
length_of-code_of [] = refl
length_of-code_of (s ∷ stmts) = omega (arith, length_of-onto (statement_of s) (code_of stmts), length_of-code_of stmts)

skip-next : (stmts : List Stmt) (n : ℕ) (stmt : Stmt) → n < length stmts → stmt ≡ get_or stmts n stmt → skip n (code_of stmts) ≡ before stmt (skip (suc n) (code_of stmts))
skip-next [] n stmt h e = absurd (omega arith)
skip-next (s ∷ stmts) zero stmt h e =
    ap (λ (x : Stmt). before x (code_of stmts)) (sym e) ∙ ap (before stmt) (sym (skip-onto zero (statement_of s) (code_of stmts)))
skip-next (s ∷ stmts) (suc n) stmt h e =
    skip-onto n (statement_of s) (code_of stmts) ∙ skip-next stmts n stmt (omega arith) e ∙ ap (before stmt) (sym (skip-onto (suc n) (statement_of s) (code_of stmts)))

pub skip-code_of : (stmts : List Stmt) (n m : ℕ) (stmt : Stmt) → m ≡ suc n → n < length stmts → stmt ≡ get_or stmts n stmt → skip n (code_of stmts) ≡ before stmt (skip m (code_of stmts))
skip-code_of stmts n m stmt e h found = skip-next stmts n stmt h found ∙ ap (λ (k : ℕ). before stmt (skip k (code_of stmts))) (sym e)

-- what is left of a body from one of its statements on
pub code_of-drop : (stmts : List Stmt) (n : ℕ) (stmt : Stmt) → n < length stmts → stmt ≡ get_or stmts n stmt → code_of (drop n stmts) ≡ before stmt (code_of (drop (n + 1) stmts))
code_of-drop stmts n stmt h e = ap code_of (drop_more stmts n stmt h) ∙ ap (λ (s : Stmt). before s (code_of (drop (n + 1) stmts))) (sym e)

-- ---- a statement of a body

tall-only-first : (s : Statement) (c : Code) → tall (onto s stop) ≤ tall (onto s c)
tall-only-first (one_line s) c = omega (arith, tall_positive c)
tall-only-first (choice on body other) c = omega (arith, tall_positive c)
tall-only-first (turning count body) c = omega (arith, tall_positive c)
tall-only-first (going_through name list body) c = omega (arith, tall_positive c)

pub tall-only-le : (stmts : List Stmt) (n : ℕ) (stmt : Stmt) → n < length stmts → tall (only (get_or stmts n stmt)) ≤ tall (code_of stmts)
tall-only-le [] n stmt h = absurd (omega arith)
tall-only-le (s ∷ stmts) zero stmt h = tall-only-first (statement_of s) (code_of stmts)
tall-only-le (s ∷ stmts) (suc n) stmt h = omega (arith, next_less (statement_of s) (code_of stmts), tall-only-le stmts n stmt (omega arith))

nesting-only-first : (s : Statement) (c : Code) → nesting (onto s stop) ≤ nesting (onto s c)
nesting-only-first (one_line s) c = omega arith
nesting-only-first (choice on body other) c = omega arith
nesting-only-first (turning count body) c = omega arith
nesting-only-first (going_through name list body) c = omega arith

nesting-next : (s : Statement) (c : Code) → nesting c ≤ nesting (onto s c)
nesting-next (one_line s) c = omega arith
nesting-next (choice on body other) c = omega arith
nesting-next (turning count body) c = omega arith
nesting-next (going_through name list body) c = omega arith

pub nesting-only-le : (stmts : List Stmt) (n : ℕ) (stmt : Stmt) → n < length stmts → nesting (only (get_or stmts n stmt)) ≤ nesting (code_of stmts)
nesting-only-le [] n stmt h = absurd (omega arith)
nesting-only-le (s ∷ stmts) zero stmt h = nesting-only-first (statement_of s) (code_of stmts)
nesting-only-le (s ∷ stmts) (suc n) stmt h = omega (arith, nesting-next (statement_of s) (code_of stmts), nesting-only-le stmts n stmt (omega arith))

-- ---- a statement, and what follows it

pub count_of-onto : (s : Statement) (next : Code) → count_of (onto s next) ≡ count_of (onto s stop) + count_of next
count_of-onto (one_line s) next = omega arith
count_of-onto (choice on body other) next = omega arith
count_of-onto (turning count body) next = omega arith
count_of-onto (going_through name list body) next = omega arith

-- The places of the statement itself come first.
pub placed-onto : (p : Place) (s : Statement) (next : Code) → placed p (onto s next) ≡ placed p (onto s stop) ++ placed p next
placed-onto p (one_line s) next = refl
placed-onto p (choice on body other) next = simp (append_assoc, append-nil)
placed-onto p (turning count body) next = simp append-nil
placed-onto p (going_through name list body) next = simp append-nil
