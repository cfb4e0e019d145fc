-- Bodies as trees, and the lines that their statements have without the bodies inside.
use Rattle.std.specs.Prelude.{ℕ, ℤ, List, ◌+◌, max}
use Rattle.pact_record.specs.declared.operations.Op1.{Op1}
use Rattle.pact_record.specs.declared.operations.Op2.{Op2}
use Rattle.tac_syntax.specs.declared.statements.Rec.{Rec}
use Rattle.tac_syntax.specs.declared.statements.LoopList.{LoopList}

-- A statement of one line. Registers are given by their numbers.
pub data Simple : Type 0 where
  load_int : (to : ℕ) → (value : ℤ) → Simple
  load_text : (to : ℕ) → (bytes : List ℕ) → Simple
  load_null : (to : ℕ) → Simple
  move_value : (to from : ℕ) → Simple
  get_field : (to : ℕ) → (from : Rec) → (field : ℕ) → Simple
  get_at : (to : ℕ) → (from : Rec) → (at : ℕ) → Simple
  get_key : (to at : ℕ) → Simple
  apply_one : (to : ℕ) → (op : Op1) → (a : ℕ) → Simple
  apply_two : (to : ℕ) → (op : Op2) → (a b : ℕ) → Simple
  new_record : (to : ℕ) → Simple
  copy_record : (to : ℕ) → (from : Rec) → Simple
  set_field : (to field value : ℕ) → Simple
  set_at : (to at value : ℕ) → Simple
  emit_record : (from : ℕ) → Simple

-- A body: its first statement, and the body that follows it. A block also has the bodies inside it.
pub data Code : Type 0 where
  stop : Code
  plain : (simple : Simple) → (next : Code) → Code
  branch : (on : ℕ) → (body other next : Code) → Code
  again : (count : ℕ) → (body next : Code) → Code
  each : (name : ℕ) → (list : LoopList) → (body next : Code) → Code

-- A line of a body: a statement of one line, the first line of a block, the line that separates the bodies of an `if`,
-- or the line that ends a block.
pub data Line : Type 0 where
  simple : (simple : Simple) → Line
  test : (on : ℕ) → Line
  turns : (count : ℕ) → Line
  over : (name : ℕ) → (list : LoopList) → Line
  otherwise : Line
  close : Line

-- one body after another
abbrev pub joined : Code → Code → Code
joined stop d = d
joined (plain s next) d = plain s (joined next d)
joined (branch on body other next) d = branch on body other (joined next d)
joined (again count body next) d = again count body (joined next d)
joined (each name list body next) d = each name list body (joined next d)

-- how many blocks are open at the deepest place
abbrev pub nesting : Code → ℕ
nesting stop = 0
nesting (plain s next) = nesting next
nesting (branch on body other next) = max (1 + max (nesting body) (nesting other)) (nesting next)
nesting (again count body next) = max (1 + nesting body) (nesting next)
nesting (each name list body next) = max (1 + nesting body) (nesting next)

-- how many statements there are; a block counts as one, in addition to those inside it
abbrev pub count_of : Code → ℕ
count_of stop = 0
count_of (plain s next) = 1 + count_of next
count_of (branch on body other next) = 1 + (count_of body + count_of other) + count_of next
count_of (again count body next) = 1 + count_of body + count_of next
count_of (each name list body next) = 1 + count_of body + count_of next

-- how many statements are outside all blocks
abbrev pub length_of : Code → ℕ
length_of stop = 0
length_of (plain s next) = 1 + length_of next
length_of (branch on body other next) = 1 + length_of next
length_of (again count body next) = 1 + length_of next
length_of (each name list body next) = 1 + length_of next
