-- What a hint says of a program. Of hints that aren't listed here no clause says that they are right.
use Rattle.std.specs.Prelude.{◌≡◌, ◌==◌, ◌&&◌, ◌||◌, ℕ, Bool, true, false, List, [], ◌∷◌, slice_get, Option, Some, None}
use Rattle.std.specs.List.{AllByRecursion}
use Rattle.tac_syntax.specs.declared.statements.Rec.{Rec}
use Rattle.tac_syntax.specs.declared.statements.Rec.TheVariants.{Reg}
use Rattle.tac_syntax.specs.Code.{Simple, get_field, Code, stop, plain, branch, again, each}
use Rattle.tac_syntax.specs.Valid.{WithFields}
use Rattle.pact_record.specs.Keys.{is_listed}
use Rattle.plan_trees.specs.Plans.{subtree_of}
use Rattle.pact_operators.specs.declared.operators.Op.{Op}
use Rattle.pact_operators.specs.Programs.{ProgramData, HasAttribute, HasLeftAttribute, HasRightAttribute, is_operator_kind}
use Rattle.order_free.specs.OrderFree.{IsOrderFree}
use Rattle.function_hints.specs.declared.lists.Hint.{Hint}
use Rattle.function_hints.specs.declared.lists.Hint.TheVariants.{NeverSet, SinkNeverSet, UnusedFunction, OrderDependent}

-- the operator calls the function of that number
abbrev pub calls : Op → ℕ → Bool
calls op function = is_operator_kind op.kind && (op.function == function)

-- some operator calls the function
abbrev pub is_called : List Op → ℕ → Bool
is_called [] function = false
is_called (op ∷ ops) function = calls op function || is_called ops function

-- the operator of a number, which isn't a source, calls the function
abbrev pub IsCalled : ProgramData → ℕ → WithFields → Type 0
IsCalled p op called = (found : Op) × (slice_get p.ops op ≡ Some found) × (is_operator_kind found.kind ≡ true) × (slice_get p.functions found.function ≡ Some called)

-- ---- fields that are read

-- a record that isn't in a register: it is one of an input
abbrev pub is_input : Rec → Bool
is_input (Reg k) = false
is_input from = true

abbrev pub gets : Simple → ℕ → Bool
gets (get_field to from field) k = is_input from && (field == k)
gets statement k = false

-- some statement of a body reads the field of an input's record
abbrev pub has_get : Code → ℕ → Bool
has_get stop k = false
has_get (plain s next) k = gets s k || has_get next k
has_get (branch on body other next) k = has_get body k || (has_get other k || has_get next k)
has_get (again count body next) k = has_get body k || has_get next k
has_get (each name list body next) k = has_get body k || has_get next k

-- the operator's function reads the field of an input's record
abbrev pub IsRead : ProgramData → ℕ → ℕ → Type 0
IsRead p op field = (called : WithFields) × IsCalled p op called × (has_get called.function.body field ≡ true)

-- the field is a key of the operator
abbrev pub IsKey : ProgramData → ℕ → ℕ → Type 0
IsKey p op field = (found : Op) × (slice_get p.ops op ≡ Some found) × ((is_listed found.left_keys field || is_listed found.right_keys field) ≡ true)

-- with a statement, its function reads the field; with none, it is a key
abbrev pub IsUsed : ProgramData → ℕ → Option ℕ → ℕ → Type 0
IsUsed p op (Some statement) field = IsRead p op field
IsUsed p op None field = IsKey p op field

-- No source or operator below the operator ever sets the field: in all records of its inputs it is Null.
abbrev pub IsNeverSet : ProgramData → ℕ → ℕ → Type 0
IsNeverSet p op field =
    (HasLeftAttribute p.functions p.ops (subtree_of op p.plan) field → ⊥) × (HasRightAttribute p.functions p.ops (subtree_of op p.plan) field → ⊥)

-- No source or operator of the program ever sets the field.
abbrev pub IsNeverKept : ProgramData → ℕ → Type 0
IsNeverKept p field = HasAttribute p.functions p.ops p.plan field → ⊥

-- the operator calls a function that fails the order test
abbrev pub IsOrderDependent : ProgramData → ℕ → Type 0
IsOrderDependent p op = (called : WithFields) × IsCalled p op called × (IsOrderFree called.function.kind called.function.body → ⊥)

abbrev pub IsRight : ProgramData → Hint → Type 0
IsRight p (NeverSet op statement field) = IsUsed p op statement field × IsNeverSet p op field
IsRight p (SinkNeverSet field) = IsNeverKept p field
IsRight p (UnusedFunction function) = is_called p.ops function ≡ false
IsRight p (OrderDependent op statement) = IsOrderDependent p op
IsRight p hint = Unit {0}

abbrev pub AreRight : ProgramData → List Hint → Type 0
AreRight p hints = AllByRecursion (IsRight p) hints
