-- Statements as the code has them, and the bodies that they make.
use Rattle.std.specs.Prelude.{ℕ, zero, suc, List, [], ◌∷◌}
use Rattle.tac_syntax.specs.declared.statements.LoopList.{LoopList}
use Rattle.tac_syntax.specs.declared.statements.Stmt.{Stmt}
use Rattle.tac_syntax.specs.declared.statements.Stmt.TheVariants.{Int, Text, Null, Mov, Get, GetAt, Key, One, Two, New, Copy, Set, SetAt, Emit, If, Repeat, Each}
use Rattle.tac_syntax.specs.Code.{Simple, load_int, load_text, load_null, move_value, get_field, get_at, get_key, apply_one, apply_two, new_record, copy_record, set_field, set_at, emit_record, Code, stop, plain, branch, again, each, Line, simple, test, turns, over}

-- a statement with the bodies inside it
pub data Statement : Type 0 where
  one_line : (simple : Simple) → Statement
  choice : (on : ℕ) → (body other : Code) → Statement
  turning : (count : ℕ) → (body : Code) → Statement
  going_through : (name : ℕ) → (list : LoopList) → (body : Code) → Statement

-- a statement, and the body that follows it
abbrev pub onto : Statement → Code → Code
onto (one_line s) next = plain s next
onto (choice on body other) next = branch on body other next
onto (turning count body) next = again count body next
onto (going_through name list body) next = each name list body next

abbrev pub statement_of : Stmt → Statement
statement_of (Int to value) = one_line (load_int to value)
statement_of (Text to value) = one_line (load_text to value)
statement_of (Null to) = one_line (load_null to)
statement_of (Mov to from) = one_line (move_value to from)
statement_of (Get to from field) = one_line (get_field to from field)
statement_of (GetAt to from at) = one_line (get_at to from at)
statement_of (Key to at) = one_line (get_key to at)
statement_of (One to op a) = one_line (apply_one to op a)
statement_of (Two to op a b) = one_line (apply_two to op a b)
statement_of (New to) = one_line (new_record to)
statement_of (Copy to from) = one_line (copy_record to from)
statement_of (Set to field value) = one_line (set_field to field value)
statement_of (SetAt to at value) = one_line (set_at to at value)
statement_of (Emit from) = one_line (emit_record from)
statement_of (If on body other) = choice on body other
statement_of (Repeat count body) = turning count body
statement_of (Each name list body) = going_through name list body

abbrev pub before : Stmt → Code → Code
before stmt next = onto (statement_of stmt) next

-- the first line of a statement, without the bodies inside
abbrev pub line_of : Statement → Line
line_of (one_line s) = simple s
line_of (choice on body other) = test on
line_of (turning count body) = turns count
line_of (going_through name list body) = over name list

abbrev pub first_line : Stmt → Line
first_line stmt = line_of (statement_of stmt)

-- the body that is one statement
abbrev pub only : Stmt → Code
only stmt = before stmt stop

abbrev pub code_of : List Stmt → Code
code_of [] = stop
code_of (stmt ∷ stmts) = before stmt (code_of stmts)

-- a body without its first n statements
abbrev pub skip : ℕ → Code → Code
skip zero c = c
skip (suc n) stop = stop
skip (suc n) (plain s next) = skip n next
skip (suc n) (branch on body other next) = skip n next
skip (suc n) (again count body next) = skip n next
skip (suc n) (each name list body next) = skip n next
