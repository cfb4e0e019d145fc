-- What one call of a function means, by small steps over a flat list of items still to do.
use Rattle.std.specs.Prelude.{ℕ, zero, suc, pos, Option, Some, None, nat_lt, ◌+◌, ◌-◌, ◌*◌, max, if◌then◌else◌, List, [], ◌∷◌, ◌++◌, length, get_or, slice_set, replicate, take}
use Rattle.pact_record.specs.declared.values.Value.{Value}
use Rattle.pact_record.specs.declared.values.Value.TheVariants.{Null, Int, Text}
use Rattle.pact_record.specs.Value.{is_true}
use Rattle.pact_record.specs.Record.{at_field, joined_record}
use Rattle.pact_record.specs.Operations.{applied1, applied2}
use Rattle.tac_syntax.specs.declared.statements.Rec.{Rec}
use Rattle.tac_syntax.specs.declared.statements.Rec.TheVariants.{Reg, Loop, Input, Left, Right, Join, First}
use Rattle.tac_syntax.specs.declared.statements.LoopList.{LoopList}
use Rattle.tac_syntax.specs.declared.statements.LoopList.TheVariants.{Group, Left as LeftGroup, Right as RightGroup}
use Rattle.tac_syntax.specs.Limits.{value_registers, record_registers}
use Rattle.tac_syntax.specs.Code.{Simple, load_int, load_text, load_null, move_value, get_field, get_at, get_key, apply_one, apply_two, new_record, copy_record, set_field, set_at, emit_record, Code, stop, plain, branch, again, each}

-- What a function is called for, by its kind: one record (Map), two records (Match, Cross),
-- key values and the records of their group (Reduce), key values and a group of either side (CoGroup).
pub data CallInput : Type 0 where
  of_record : (row : List Value) → CallInput
  of_pair : (left right : List Value) → CallInput
  of_group : (key : List Value) → (group : List (List Value)) → CallInput
  of_groups : (key : List Value) → (left right : List (List Value)) → CallInput

-- the registers, the record bound to each loop's name, and what was emitted so far
pub record Store : Type 0 where
  pub fields : ℕ
  pub input : CallInput
  pub values : List Value
  pub records : List (List Value)
  pub loops : List (List Value)
  pub emitted : List (List Value)

-- What is still to do: a statement of one line, a choice between two bodies, a body for `count` more turns, or a body
-- once for each of the remaining records, which is bound to the loop's name.
pub data Item : Type 0 where
  act : (statement : Simple) → Item
  choose : (on : ℕ) → (body other : Code) → Item
  turns_left : (count : ℕ) → (body : Code) → Item
  rows_left : (name : ℕ) → (rows : List (List Value)) → (body : Code) → Item

pub record CallState : Type 0 where
  pub store : Store
  pub items : List Item

-- the record with Null in each field
abbrev pub empty_record : ℕ → List Value
empty_record fields = replicate fields Null

-- ---- what a statement names

abbrev pub value_in : Store → ℕ → Value
value_in s k = get_or s.values k Null

abbrev pub record_in : Store → ℕ → List Value
record_in s k = get_or s.records k []

-- the record that a loop's name is bound to; the outermost loop's is 1
abbrev pub loop_record : Store → ℕ → List Value
loop_record s name = get_or s.loops (name - 1) []

abbrev pub input_record : CallInput → List Value
input_record (of_record row) = row
input_record (of_pair left right) = []
input_record (of_group key group) = []
input_record (of_groups key left right) = []

abbrev pub left_record : CallInput → List Value
left_record (of_record row) = []
left_record (of_pair left right) = left
left_record (of_group key group) = []
left_record (of_groups key left right) = []

abbrev pub right_record : CallInput → List Value
right_record (of_record row) = []
right_record (of_pair left right) = right
right_record (of_group key group) = []
right_record (of_groups key left right) = []

abbrev pub first_record : CallInput → List Value
first_record (of_record row) = []
first_record (of_pair left right) = []
first_record (of_group key group) = get_or group 0 []
first_record (of_groups key left right) = []

-- the record that a statement reads; no valid function reads one that its call doesn't have
abbrev pub named_record : Store → Rec → List Value
named_record s (Reg k) = record_in s k
named_record s (Loop name) = loop_record s name
named_record s Input = input_record s.input
named_record s Left = left_record s.input
named_record s Right = right_record s.input
named_record s Join = joined_record (left_record s.input) (right_record s.input)
named_record s First = first_record s.input

abbrev pub key_values : CallInput → List Value
key_values (of_record row) = []
key_values (of_pair left right) = []
key_values (of_group key group) = key
key_values (of_groups key left right) = key

-- the records that a loop goes through, in their order
abbrev pub rows_of : CallInput → LoopList → List (List Value)
rows_of (of_record row) list = []
rows_of (of_pair left right) list = []
rows_of (of_group key group) Group = group
rows_of (of_group key group) LeftGroup = []
rows_of (of_group key group) RightGroup = []
rows_of (of_groups key left right) Group = []
rows_of (of_groups key left right) LeftGroup = left
rows_of (of_groups key left right) RightGroup = right

-- ---- fields by number

-- the field whose number a value is: an Int from 0 to below the number of fields
abbrev pub numbered : ℕ → Value → Option ℕ
numbered fields (Int (pos n)) = if nat_lt n fields then Some n else None
numbered fields v = None

-- a record's value in that field, or Null if there is none
abbrev pub at_numbered : List Value → Option ℕ → Value
at_numbered r (Some k) = at_field r k
at_numbered r None = Null

-- a record with another value in that field, or unchanged if there is none
abbrev pub set_numbered : List Value → Option ℕ → Value → List Value
set_numbered r (Some k) v = slice_set r k v
set_numbered r None v = r

-- ---- what a statement of one line does

abbrev pub put_value : Store → ℕ → Value → Store
put_value s to v = record s { values = slice_set s.values to v }

abbrev pub put_record : Store → ℕ → List Value → Store
put_record s to r = record s { records = slice_set s.records to r }

abbrev pub after : Simple → Store → Store
after (load_int to value) s = put_value s to (Int value)
after (load_text to bytes) s = put_value s to (Text bytes)
after (load_null to) s = put_value s to Null
after (move_value to from) s = put_value s to (value_in s from)
after (get_field to from field) s = put_value s to (at_field (named_record s from) field)
after (get_at to from at) s = put_value s to (at_numbered (named_record s from) (numbered s.fields (value_in s at)))
after (get_key to at) s = put_value s to (get_or (key_values s.input) at Null)
after (apply_one to op a) s = put_value s to (applied1 op (value_in s a))
after (apply_two to op a b) s = put_value s to (applied2 op (value_in s a) (value_in s b))
after (new_record to) s = put_record s to (empty_record s.fields)
after (copy_record to from) s = put_record s to (named_record s from)
after (set_field to field value) s = put_record s to (slice_set (record_in s to) field (value_in s value))
after (set_at to at value) s = put_record s to (set_numbered (record_in s to) (numbered s.fields (value_in s at)) (value_in s value))
after (emit_record from) s = record s { emitted = s.emitted ++ record_in s from ∷ [] }

-- ---- steps

-- The statements of a body as items. A loop over a list begins with all of its records left.
abbrev pub items_of : CallInput → Code → List Item
items_of input stop = []
items_of input (plain s next) = act s ∷ items_of input next
items_of input (branch on body other next) = choose on body other ∷ items_of input next
items_of input (again count body next) = turns_left count body ∷ items_of input next
items_of input (each name list body next) = rows_left name (rows_of input list) body ∷ items_of input next

-- Binds a loop's name to a record. The name is one more than the number of `each` around the loop; their names stay
-- bound.
abbrev pub bind : Store → ℕ → List Value → Store
bind s name row = record s { loops = take (name - 1) s.loops ++ row ∷ [] }

-- the body that a value chooses
abbrev pub chosen : Value → Code → Code → Code
chosen v body other = if is_true v then body else other

-- a body's items before others
abbrev pub body_first : Store → Code → List Item → CallState
body_first s body rest = record { store = s; items = items_of s.input body ++ rest }

-- one step takes the first item away; with no item left nothing changes
abbrev pub step_items : Store → List Item → CallState
step_items s [] = record { store = s; items = [] }
step_items s (act statement ∷ rest) = record { store = after statement s; items = rest }
step_items s (choose on body other ∷ rest) = body_first s (chosen (value_in s on) body other) rest
step_items s (turns_left zero body ∷ rest) = record { store = s; items = rest }
step_items s (turns_left (suc n) body ∷ rest) = body_first s body (turns_left n body ∷ rest)
step_items s (rows_left name [] body ∷ rest) = record { store = s; items = rest }
step_items s (rows_left name (row ∷ rows) body ∷ rest) = body_first (bind s name row) body (rows_left name rows body ∷ rest)

abbrev pub step : CallState → CallState
step c = step_items c.store c.items

abbrev pub run : ℕ → CallState → CallState
run zero c = c
run (suc n) c = run n (step c)

-- at the start every value and every field is Null, nothing was emitted, and the body is to do
abbrev pub start_store : ℕ → CallInput → Store
start_store fields input = record { fields = fields; input = input; values = replicate value_registers Null; records = replicate record_registers (empty_record fields); loops = []; emitted = [] }

abbrev pub start_state : ℕ → Code → CallInput → CallState
start_state fields body input = record { store = start_store fields input; items = items_of input body }

-- ---- how many steps

-- the length of the longest list of an input
abbrev pub longest : CallInput → ℕ
longest (of_record row) = 0
longest (of_pair left right) = 0
longest (of_group key group) = length group
longest (of_groups key left right) = max (length left) (length right)

-- a bound on the steps of a body if each list has at most n records
abbrev pub turns : ℕ → Code → ℕ
turns n stop = 0
turns n (plain s next) = 1 + turns n next
turns n (branch on body other next) = 1 + max (turns n body) (turns n other) + turns n next
turns n (again count body next) = count + 1 + count * turns n body + turns n next
turns n (each name list body next) = n + 1 + n * turns n body + turns n next

-- ---- the meaning

-- the state in which a call ends
abbrev pub end_state : ℕ → Code → CallInput → CallState
end_state fields body input = run (turns (longest input) body) (start_state fields body input)

-- what a call emits
abbrev pub Out : ℕ → Code → CallInput → List (List Value)
Out fields body input = (end_state fields body input).store.emitted
