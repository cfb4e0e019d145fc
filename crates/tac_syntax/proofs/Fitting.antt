-- A place that fits a store: what its statements name exists, and the place still fits after them.
use Rattle.std.proofs.Common.{◌≡◌, ◌<◌, ◌+◌, ◌-◌, ℕ, true, false, ◌||◌, not, ◌==◌, nat_le, List, [], ◌∷◌, length, take, refl, arith}
use Rattle.std.proofs.lemmas.Bool.{leb-false, leb-true, eqb-true, not-false, or_parts, and_parts}
use Rattle.std.proofs.lemmas.List.{length_push, length-take}
use Rattle.std.specs.List.{AllByRecursion}
use Rattle.pact_record.specs.declared.values.Value.{Value}
use Rattle.tac_syntax.specs.declared.functions.Kind.{Kind}
use Rattle.tac_syntax.specs.declared.functions.Kind.TheVariants.{Map, Match, Cross, Reduce, CoGroup}
use Rattle.tac_syntax.specs.declared.statements.Rec.{Rec}
use Rattle.tac_syntax.specs.declared.statements.Rec.TheVariants.{Reg, Loop, Input, Left, Right, Join, First}
use Rattle.tac_syntax.specs.declared.statements.LoopList.{LoopList}
use Rattle.tac_syntax.specs.Limits.{value_registers, record_registers}
use Rattle.tac_syntax.specs.Code.{Simple, load_int, load_text, load_null, move_value, get_field, get_at, get_key, apply_one, apply_two, new_record, copy_record, set_field, set_at, emit_record, Code, simple, over}
use Rattle.tac_syntax.specs.Call.{CallInput, of_group, of_groups, Store, key_values, rows_of, after, bind}
use Rattle.tac_syntax.specs.Exec.{exec}
use Rattle.tac_syntax.specs.Places.{Place, at_place, in_each}
use Rattle.tac_syntax.specs.Rules.{is_map, is_pairing, is_reduce, is_cogroup, has_record, has_list, no_register_read, no_value_register}
use Rattle.tac_syntax.specs.CallInputs.{IsOfRecord, IsOfPair, IsOfGroup, IsOfGroups, IsInputOf, HasKeys}
use Rattle.tac_syntax.specs.InRange.{IsInRange, AreInRange}
use Rattle.tac_syntax.specs.Ready.{FitsStore, HasRecord, CanAct}
use Rattle.tac_syntax.proofs.KeptByBodies.{IsKept, exec-kept}

-- ---- the input of each kind

IsOfRecord-map : (kind : Kind) (input : CallInput) → is_map kind ≡ true → IsInputOf kind input → IsOfRecord input
IsOfRecord-map Map input t h = h
IsOfRecord-map kind input t h = cc

IsOfPair-pairing : (kind : Kind) (input : CallInput) → is_pairing kind ≡ true → IsInputOf kind input → IsOfPair input
IsOfPair-pairing Match input t h = h
IsOfPair-pairing Cross input t h = h
IsOfPair-pairing kind input t h = cc

IsOfGroup-reduce : (kind : Kind) (input : CallInput) → is_reduce kind ≡ true → IsInputOf kind input → IsOfGroup input
IsOfGroup-reduce Reduce input t h = h
IsOfGroup-reduce kind input t h = cc

of_group-key : (keys at : ℕ) (input : CallInput) → at < keys → IsOfGroup input → HasKeys keys input → at < length (key_values input)
of_group-key keys at (of_group key group) lt h k = omega arith
of_group-key keys at input lt h k = absurd h

of_groups-key : (keys at : ℕ) (input : CallInput) → at < keys → IsOfGroups input → HasKeys keys input → at < length (key_values input)
of_groups-key keys at (of_groups key left right) lt h k = omega arith
of_groups-key keys at input lt h k = absurd h

at_key : (kind : Kind) (keys at : ℕ) (input : CallInput) → (is_reduce kind || is_cogroup kind) ≡ true → at < keys → IsInputOf kind input → HasKeys keys input → at < length (key_values input)
at_key Reduce keys at input t lt h k = of_group-key keys at input lt h k
at_key CoGroup keys at input t lt h k = of_groups-key keys at input lt h k
at_key kind keys at input t lt h k = cc

-- ---- what a statement of one line names

HasRecord-fits : (p : Place) (from : Rec) (s : Store) → no_register_read from ≡ false → has_record p from ≡ true → FitsStore p s → HasRecord s from
HasRecord-fits p (Reg k) s r t h = leb-false record_registers k r
HasRecord-fits p (Loop name) s r t h =
    let both = and_parts (nat_le 1 name) (nat_le name p.lists) t in
    let low = leb-true 1 name both.0 in
    let high = leb-true name p.lists both.1 in
    (low, omega (arith, high, h.lists))
HasRecord-fits p Input s r t h = IsOfRecord-map p.kind s.input t h.kind
HasRecord-fits p Left s r t h = IsOfPair-pairing p.kind s.input t h.kind
HasRecord-fits p Right s r t h = IsOfPair-pairing p.kind s.input t h.kind
HasRecord-fits p Join s r t h = IsOfPair-pairing p.kind s.input t h.kind
HasRecord-fits p First s r t h = IsOfGroup-reduce p.kind s.input t h.kind

pub value_register : (k : ℕ) → no_value_register k ≡ false → k < value_registers
value_register k h = leb-false value_registers k h

field_number : (p : Place) (s : Store) (field : ℕ) → nat_le p.fields field ≡ false → FitsStore p s → field < s.fields
field_number p s field h f = let below = leb-false p.fields field h in omega (arith, below, f.fields)

pub CanAct-fits : (p : Place) (a : Simple) (s : Store) → IsInRange (at_place p (simple a)) → FitsStore p s → CanAct a s
CanAct-fits p (load_int to value) s r h = value_register to r.registers
CanAct-fits p (load_text to bytes) s r h = value_register to r.registers
CanAct-fits p (load_null to) s r h = value_register to r.registers
CanAct-fits p (move_value to from) s r h =
    let both = or_parts (no_value_register to) (no_value_register from) r.registers in
    (value_register to both.0, value_register from both.1)
CanAct-fits p (get_field to from field) s r h =
    let both = or_parts (no_value_register to) (no_register_read from) r.registers in
    (value_register to both.0, HasRecord-fits p from s both.1 (not-false (has_record p from) r.operands) h, field_number p s field r.fields h)
CanAct-fits p (get_at to from at) s r h =
    let all = or_parts (no_value_register to || no_register_read from) (no_value_register at) r.registers in
    let both = or_parts (no_value_register to) (no_register_read from) all.0 in
    (value_register to both.0, HasRecord-fits p from s both.1 (not-false (has_record p from) r.operands) h, value_register at all.1)
CanAct-fits p (get_key to at) s r h =
    (value_register to r.registers, at_key p.kind p.keys at s.input (not-false (is_reduce p.kind || is_cogroup p.kind) r.operands) (leb-false p.keys at r.key_positions) h.kind h.keys)
CanAct-fits p (apply_one to op a) s r h =
    let both = or_parts (no_value_register to) (no_value_register a) r.registers in
    (value_register to both.0, value_register a both.1)
CanAct-fits p (apply_two to op a b) s r h =
    let all = or_parts (no_value_register to || no_value_register a) (no_value_register b) r.registers in
    let both = or_parts (no_value_register to) (no_value_register a) all.0 in
    (value_register to both.0, value_register a both.1, value_register b all.1)
CanAct-fits p (new_record to) s r h = leb-false record_registers to r.registers
CanAct-fits p (copy_record to from) s r h =
    let both = or_parts (nat_le record_registers to) (no_register_read from) r.registers in
    (leb-false record_registers to both.0, HasRecord-fits p from s both.1 (not-false (has_record p from) r.operands) h)
CanAct-fits p (set_field to field value) s r h =
    let both = or_parts (nat_le record_registers to) (no_value_register value) r.registers in
    (leb-false record_registers to both.0, field_number p s field r.fields h, value_register value both.1)
CanAct-fits p (set_at to at value) s r h =
    let all = or_parts (nat_le record_registers to || no_value_register at) (no_value_register value) r.registers in
    let both = or_parts (nat_le record_registers to) (no_value_register at) all.0 in
    (leb-false record_registers to both.0, value_register at both.1, value_register value all.1)
CanAct-fits p (emit_record from) s r h = leb-false record_registers from r.registers

-- ---- the place fits after a body

-- a loop's name is one more than the number of `each` around it
pub next_name-over : (p : Place) (name : ℕ) (list : LoopList) → IsInRange (at_place p (over name list)) → name ≡ p.lists + 1
next_name-over p name list r = eqb-true name (p.lists + 1) (not-false (name == p.lists + 1) (or_parts (not (has_list p list)) (not (name == p.lists + 1)) r.operands).1)

pub Fits-bind : (p : Place) (name : ℕ) (row : List Value) (s : Store) → name ≡ p.lists + 1 → FitsStore p s → FitsStore (in_each p) (bind s name row)
Fits-bind p name row s e h = record {
  fields = h.fields;
  kind = h.kind;
  keys = h.keys;
  lists = omega (arith, e, h.lists, length_push (take (name - 1) s.loops) row, length-take (name - 1) s.loops);
}

pub Fits-out_of_each : (p : Place) (s : Store) → FitsStore (in_each p) s → FitsStore p s
Fits-out_of_each p s h = record { fields = h.fields; kind = h.kind; keys = h.keys; lists = omega (arith, h.lists) }

-- the place fits, and the input is the one of the call
abbrev FitsInput : CallInput → Place → Store → Type 0
FitsInput input p s = FitsStore p s × (s.input ≡ input)

FitsInput-after : (input : CallInput) (p : Place) (a : Simple) (s : Store) → FitsInput input p s → FitsInput input p (after a s)
FitsInput-after input p (load_int to value) s h = h
FitsInput-after input p (load_text to bytes) s h = h
FitsInput-after input p (load_null to) s h = h
FitsInput-after input p (move_value to from) s h = h
FitsInput-after input p (get_field to from field) s h = h
FitsInput-after input p (get_at to from at) s h = h
FitsInput-after input p (get_key to at) s h = h
FitsInput-after input p (apply_one to op a) s h = h
FitsInput-after input p (apply_two to op a b) s h = h
FitsInput-after input p (new_record to) s h = h
FitsInput-after input p (copy_record to from) s h = h
FitsInput-after input p (set_field to field value) s h = h
FitsInput-after input p (set_at to at value) s h = h
FitsInput-after input p (emit_record from) s h = h

any_rows : (rows : List (List Value)) → AllByRecursion (λ row. Unit {0}) rows
any_rows [] = tt
any_rows (row ∷ rows) = (tt, any_rows rows)

FitsInput-kept : (input : CallInput) → IsKept IsInRange (λ row. Unit {0}) (FitsInput input) input
FitsInput-kept input = record {
  same_input = λ p s h. h.1;
  rows = λ list. any_rows (rows_of input list);
  acts = λ p a s r h. FitsInput-after input p a s h;
  into_if = λ p s h. (record { fields = h.0.fields; kind = h.0.kind; keys = h.0.keys; lists = h.0.lists }, h.1);
  out_of_if = λ p s h. (record { fields = h.0.fields; kind = h.0.kind; keys = h.0.keys; lists = h.0.lists }, h.1);
  into_repeat = λ count p s h. (record { fields = h.0.fields; kind = h.0.kind; keys = h.0.keys; lists = h.0.lists }, h.1);
  out_of_repeat = λ count p s h. (record { fields = h.0.fields; kind = h.0.kind; keys = h.0.keys; lists = h.0.lists }, h.1);
  into_each = λ p name list row s r g h. (Fits-bind p name row s (next_name-over p name list r) h.0, h.1);
  out_of_each = λ p s h. (Fits-out_of_each p s h.0, h.1);
}

pub Fits-exec : (c : Code) (p : Place) (s : Store) → AreInRange p c → FitsStore p s → FitsStore p (exec c s)
Fits-exec c p s r h = (exec-kept IsInRange (λ row. Unit {0}) (FitsInput s.input) s.input (FitsInput-kept s.input) c p s r (h, refl)).0
