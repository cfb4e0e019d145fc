-- The rules that a valid function keeps, and which statement breaks which of them.
use Rattle.std.specs.Prelude.{ℕ, Bool, true, false, not, ◌&&◌, ◌||◌, ◌==◌, ◌+◌, ◌*◌, nat_le, nat_lt}
use Rattle.tac_syntax.specs.declared.functions.Kind.{Kind}
use Rattle.tac_syntax.specs.declared.functions.Kind.TheVariants.{Map, Match, Cross, Reduce, CoGroup}
use Rattle.tac_syntax.specs.declared.statements.Rec.{Rec}
use Rattle.tac_syntax.specs.declared.statements.Rec.TheVariants.{Reg, Loop, Input, Left, Right, Join, First}
use Rattle.tac_syntax.specs.declared.statements.LoopList.{LoopList}
use Rattle.tac_syntax.specs.declared.statements.LoopList.TheVariants.{Group, Left as LeftGroup, Right as RightGroup}
use Rattle.tac_syntax.specs.declared.rules.Rule.{Rule}
use Rattle.tac_syntax.specs.declared.rules.Rule.TheVariants.{Registers, Operands, Fields, KeyPositions, NestedIfs, NestedLoops, Statements, Repeats}
use Rattle.tac_syntax.specs.Code.{Simple, load_int, load_text, load_null, move_value, get_field, get_at, get_key, apply_one, apply_two, new_record, copy_record, set_field, set_at, emit_record, Line, simple, test, turns, over}
use Rattle.tac_syntax.specs.Limits.{value_registers, record_registers, statement_limit, if_limit, loop_limit, turn_limit}
use Rattle.tac_syntax.specs.Places.{Place}

-- ---- registers

abbrev pub no_value_register : ℕ → Bool
no_value_register n = nat_le value_registers n

abbrev pub no_record_register : ℕ → Bool
no_record_register n = nat_le record_registers n

abbrev pub no_register_read : Rec → Bool
no_register_read (Reg k) = no_record_register k
no_register_read from = false

abbrev pub no_register : Simple → Bool
no_register (load_int to value) = no_value_register to
no_register (load_text to bytes) = no_value_register to
no_register (load_null to) = no_value_register to
no_register (move_value to from) = no_value_register to || no_value_register from
no_register (get_field to from field) = no_value_register to || no_register_read from
no_register (get_at to from at) = no_value_register to || no_register_read from || no_value_register at
no_register (get_key to at) = no_value_register to
no_register (apply_one to op a) = no_value_register to || no_value_register a
no_register (apply_two to op a b) = no_value_register to || no_value_register a || no_value_register b
no_register (new_record to) = no_record_register to
no_register (copy_record to from) = no_record_register to || no_register_read from
no_register (set_field to field value) = no_record_register to || no_value_register value
no_register (set_at to at value) = no_record_register to || no_value_register at || no_value_register value
no_register (emit_record from) = no_record_register from

-- a value register above 31 or a record register above 7
abbrev pub breaks_registers : Line → Bool
breaks_registers (simple s) = no_register s
breaks_registers (test on) = no_value_register on
breaks_registers line = false

-- ---- operands of the kind and the place

abbrev pub is_map : Kind → Bool
is_map Map = true
is_map kind = false

-- Match and Cross are called for two records
abbrev pub is_pairing : Kind → Bool
is_pairing Match = true
is_pairing Cross = true
is_pairing kind = false

abbrev pub is_reduce : Kind → Bool
is_reduce Reduce = true
is_reduce kind = false

abbrev pub is_cogroup : Kind → Bool
is_cogroup CoGroup = true
is_cogroup kind = false

-- a record register; a loop that is around the statement; the records of the kind
abbrev pub has_record : Place → Rec → Bool
has_record p (Reg k) = true
has_record p (Loop name) = nat_le 1 name && nat_le name p.lists
has_record p Input = is_map p.kind
has_record p Left = is_pairing p.kind
has_record p Right = is_pairing p.kind
has_record p Join = is_pairing p.kind
has_record p First = is_reduce p.kind

abbrev pub has_list : Place → LoopList → Bool
has_list p Group = is_reduce p.kind
has_list p LeftGroup = is_cogroup p.kind
has_list p RightGroup = is_cogroup p.kind

abbrev pub misses_operand : Place → Simple → Bool
misses_operand p (get_field to from field) = not (has_record p from)
misses_operand p (get_at to from at) = not (has_record p from)
misses_operand p (get_key to at) = not (is_reduce p.kind || is_cogroup p.kind)
misses_operand p (copy_record to from) = not (has_record p from)
misses_operand p statement = false

-- An operand or a list that the kind or the place doesn't have, a key if the kind has none, or a loop whose name isn't
-- one more than the number of `each` around it.
abbrev pub breaks_operands : Place → Line → Bool
breaks_operands p (simple s) = misses_operand p s
breaks_operands p (over name list) = not (has_list p list) || not (name == p.lists + 1)
breaks_operands p line = false

-- ---- fields and key positions

abbrev pub no_field : Place → Simple → Bool
no_field p (get_field to from field) = nat_le p.fields field
no_field p (set_field to field value) = nat_le p.fields field
no_field p statement = false

-- a field number that isn't below the number of fields
abbrev pub breaks_fields : Place → Line → Bool
breaks_fields p (simple s) = no_field p s
breaks_fields p line = false

abbrev pub no_key_position : Place → Simple → Bool
no_key_position p (get_key to at) = nat_le p.keys at
no_key_position p statement = false

-- a key position that isn't below the function's number of keys
abbrev pub breaks_key_positions : Place → Line → Bool
breaks_key_positions p (simple s) = no_key_position p s
breaks_key_positions p line = false

-- ---- blocks

-- an `if` inside 8 others
abbrev pub breaks_nested_ifs : Place → Line → Bool
breaks_nested_ifs p (test on) = nat_le if_limit p.ifs
breaks_nested_ifs p line = false

-- a loop of either kind inside 3 others
abbrev pub breaks_nested_loops : Place → Line → Bool
breaks_nested_loops p (turns count) = nat_le loop_limit p.loops
breaks_nested_loops p (over name list) = nat_le loop_limit p.loops
breaks_nested_loops p line = false

-- a `repeat` of zero turns, or one whose turns, multiplied by those of the `repeat` around it, exceed 100,000
abbrev pub breaks_repeats : Place → Line → Bool
breaks_repeats p (turns count) = (count == 0) || nat_lt turn_limit (p.repeats * count)
breaks_repeats p line = false

-- ---- all of them

-- the number of a rule in messages to users
abbrev pub code_of_rule : Rule → ℕ
code_of_rule Registers = 1
code_of_rule Operands = 2
code_of_rule Fields = 3
code_of_rule KeyPositions = 4
code_of_rule NestedIfs = 5
code_of_rule NestedLoops = 6
code_of_rule Statements = 7
code_of_rule Repeats = 8

-- Whether the statement with this number in text order, from 0, breaks the rule. A function has at most 1,000 statements.
abbrev pub breaks : Rule → ℕ → Place → Line → Bool
breaks Registers n p l = breaks_registers l
breaks Operands n p l = breaks_operands p l
breaks Fields n p l = breaks_fields p l
breaks KeyPositions n p l = breaks_key_positions p l
breaks NestedIfs n p l = breaks_nested_ifs p l
breaks NestedLoops n p l = breaks_nested_loops p l
breaks Statements n p l = nat_le statement_limit n
breaks Repeats n p l = breaks_repeats p l
