-- Registers, and how statements use them.
use Rattle.std.specs.Prelude.{ℕ, Bool, true, false, ◌||◌, ◌==◌}
use Rattle.tac_syntax.specs.declared.statements.Rec.{Rec}
use Rattle.tac_syntax.specs.declared.statements.Rec.TheVariants.{Reg, First}
use Rattle.tac_syntax.specs.Code.{Simple, load_int, load_text, load_null, move_value, get_field, get_at, get_key, apply_one, apply_two, new_record, copy_record, set_field, set_at, emit_record, Code, stop, plain, branch, again, each}

-- a value register or a record register, by its number
pub data Register : Type 0 where
  value_at : (k : ℕ) → Register
  record_at : (k : ℕ) → Register

abbrev pub RegisterSet : Type 0
RegisterSet = Register → Bool

abbrev pub no_registers : RegisterSet
no_registers r = false

-- whether it is the value register with this number; below, the record register
abbrev pub is_value : ℕ → Register → Bool
is_value k (value_at j) = j == k
is_value k (record_at j) = false

abbrev pub is_record : ℕ → Register → Bool
is_record k (value_at j) = false
is_record k (record_at j) = j == k

-- the register of a record that a statement reads
abbrev pub is_register_of : Rec → Register → Bool
is_register_of (Reg k) r = is_record k r
is_register_of from r = false

-- ---- statements of one line

-- The register is an operand. The operands of a `set` are its record register, whose other fields it keeps, and its
-- value. The operand of an `emit` is its record register. If a field's number is taken from a register, that register
-- is an operand, too.
abbrev pub has_operand : Simple → Register → Bool
has_operand (move_value to from) r = is_value from r
has_operand (get_field to from field) r = is_register_of from r
has_operand (get_at to from at) r = is_register_of from r || is_value at r
has_operand (apply_one to op a) r = is_value a r
has_operand (apply_two to op a b) r = is_value a r || is_value b r
has_operand (copy_record to from) r = is_register_of from r
has_operand (set_field to field value) r = is_record to r || is_value value r
has_operand (set_at to at value) r = is_record to r || (is_value at r || is_value value r)
has_operand (emit_record from) r = is_record from r
has_operand statement r = false

-- The register is assigned. A `set` counts as assigning its record register.
abbrev pub assigns : Simple → Register → Bool
assigns (load_int to value) r = is_value to r
assigns (load_text to bytes) r = is_value to r
assigns (load_null to) r = is_value to r
assigns (move_value to from) r = is_value to r
assigns (get_field to from field) r = is_value to r
assigns (get_at to from at) r = is_value to r
assigns (get_key to at) r = is_value to r
assigns (apply_one to op a) r = is_value to r
assigns (apply_two to op a b) r = is_value to r
assigns (new_record to) r = is_record to r
assigns (copy_record to from) r = is_record to r
assigns (set_field to field value) r = is_record to r
assigns (set_at to at value) r = is_record to r
assigns (emit_record from) r = false

-- the register occurs in the statement
abbrev pub occurs : Simple → Register → Bool
occurs s r = has_operand s r || assigns s r

abbrev pub is_first : Rec → Bool
is_first First = true
is_first from = false

-- the statement reads the first record of a group
abbrev pub reads_first : Simple → Bool
reads_first (get_field to from field) = is_first from
reads_first (get_at to from at) = is_first from
reads_first (copy_record to from) = is_first from
reads_first statement = false

-- ---- bodies

-- some statement of a body assigns the register, at any depth
abbrev pub is_assigned : Code → Register → Bool
is_assigned stop r = false
is_assigned (plain s next) r = assigns s r || is_assigned next r
is_assigned (branch on body other next) r = is_assigned body r || (is_assigned other r || is_assigned next r)
is_assigned (again count body next) r = is_assigned body r || is_assigned next r
is_assigned (each name list body next) r = is_assigned body r || is_assigned next r

-- some statement of a body reads the first record of a group
abbrev pub has_first : Code → Bool
has_first stop = false
has_first (plain s next) = reads_first s || has_first next
has_first (branch on body other next) = has_first body || (has_first other || has_first next)
has_first (again count body next) = has_first body || has_first next
has_first (each name list body next) = has_first body || has_first next
