-- The statements of a valid function name only what their kind and place have.
use Rattle.std.proofs.Common.{◌≡◌, ◌≤◌, ◌+◌, ◌*◌, ◌==◌, ◌||◌, not, nat_le, nat_lt, ℕ, true, false, None, List, [], ◌∷◌, ◌++◌, arith}
use Rattle.std.specs.List.{AllByRecursion}
use Rattle.std.proofs.lemmas.Bool.{and_parts, or_parts, not-false, leb-true, leb-false, eqb-true, eqb-false}
use Rattle.tac_syntax.specs.declared.statements.Rec.{Rec}
use Rattle.tac_syntax.specs.declared.statements.Rec.TheVariants.{Reg, Loop, Input, Left, Right, Join, First}
use Rattle.tac_syntax.specs.declared.statements.LoopList.{LoopList}
use Rattle.tac_syntax.specs.declared.statements.LoopList.TheVariants.{Group, Left as LeftGroup, Right as RightGroup}
use Rattle.tac_syntax.specs.declared.functions.Function.{Function}
use Rattle.tac_syntax.specs.declared.rules.Rule.TheVariants.{Repeats, NestedLoops}
use Rattle.tac_syntax.specs.Limits.{value_registers, record_registers, loop_limit, turn_limit}
use Rattle.tac_syntax.specs.Rules.{has_record, has_list, no_register_read, no_value_register, no_record_register, breaks_repeats, breaks_nested_loops}
use Rattle.tac_syntax.specs.Places.{Place, Placed, placed, at_place, top_place, in_if, in_repeat, in_each}
use Rattle.tac_syntax.specs.Valid.{IsValid, first_break_from}
use Rattle.tac_syntax.specs.InRange.{IsInRange}
use Rattle.tac_syntax.proofs.Ranges.{AreInRange-valid, none_of}
use Rattle.pact_record.proofs.Lists.{AllByRecursion-left, AllByRecursion-right}
use Rattle.tac_syntax.specs.Code.{Simple, load_int, load_text, load_null, move_value, get_field, get_at, get_key, apply_one, apply_two, new_record, copy_record, set_field, set_at, emit_record, Code, stop, plain, branch, again, each, simple}
use Rattle.tac_syntax.specs.WellFormed.{CanRead, HasList, IsWellFormedSimple, IsWellFormed}

-- A statement keeps the rules on loops.
Turns : Placed → Type 0
Turns x = (breaks_repeats x.place x.line ≡ false) × (breaks_nested_loops x.place x.line ≡ false)

turns_unbroken : (n : ℕ) (xs : List Placed) → first_break_from Repeats n xs ≡ None → first_break_from NestedLoops n xs ≡ None → AllByRecursion Turns xs
unfolding Turns
turns_unbroken n [] h g = tt
turns_unbroken n (x ∷ xs) h g =
    let p = none_of (breaks_repeats x.place x.line) n (first_break_from Repeats (n + 1) xs) h in
    let q = none_of (breaks_nested_loops x.place x.line) n (first_break_from NestedLoops (n + 1) xs) g in
    ((p.0, q.0), turns_unbroken (n + 1) xs p.1 q.1)

can_read : (p : Place) (from : Rec) → no_register_read from ≡ false → has_record p from ≡ true → CanRead p.kind p.lists from
can_read p (Reg k) r h = leb-false record_registers k r
can_read p (Loop name) r h = let b = and_parts (nat_le 1 name) (nat_le name p.lists) h in (leb-true 1 name b.0, leb-true name p.lists b.1)
can_read p Input r h = h
can_read p Left r h = h
can_read p Right r h = h
can_read p Join r h = h
can_read p First r h = h

has_the_list : (p : Place) (list : LoopList) → has_list p list ≡ true → HasList p.kind list
has_the_list p Group h = h
has_the_list p LeftGroup h = h
has_the_list p RightGroup h = h

simple_is_well_formed : (p : Place) (a : Simple) → IsInRange (at_place p (simple a)) → IsWellFormedSimple p.kind p.fields p.lists a
simple_is_well_formed p (load_int to value) h = leb-false value_registers to h.registers
simple_is_well_formed p (load_text to bytes) h = leb-false value_registers to h.registers
simple_is_well_formed p (load_null to) h = leb-false value_registers to h.registers
simple_is_well_formed p (move_value to from) h =
    let r = or_parts (no_value_register to) (no_value_register from) h.registers in (leb-false value_registers to r.0, leb-false value_registers from r.1)
simple_is_well_formed p (get_field to from field) h =
    let r = or_parts (no_value_register to) (no_register_read from) h.registers in
    (leb-false value_registers to r.0, can_read p from r.1 (not-false (has_record p from) h.operands), leb-false p.fields field h.fields)
simple_is_well_formed p (get_at to from at) h =
    let all = or_parts (no_value_register to || no_register_read from) (no_value_register at) h.registers in
    let r = or_parts (no_value_register to) (no_register_read from) all.0 in
    (leb-false value_registers to r.0, can_read p from r.1 (not-false (has_record p from) h.operands), leb-false value_registers at all.1)
simple_is_well_formed p (get_key to at) h = (leb-false value_registers to h.registers, tt)
simple_is_well_formed p (apply_one to op a) h =
    let r = or_parts (no_value_register to) (no_value_register a) h.registers in (leb-false value_registers to r.0, leb-false value_registers a r.1)
simple_is_well_formed p (apply_two to op a b) h =
    let r = or_parts (no_value_register to || no_value_register a) (no_value_register b) h.registers in
    let s = or_parts (no_value_register to) (no_value_register a) r.0 in
    (leb-false value_registers to s.0, leb-false value_registers a s.1, leb-false value_registers b r.1)
simple_is_well_formed p (new_record to) h = leb-false record_registers to h.registers
simple_is_well_formed p (copy_record to from) h =
    let r = or_parts (no_record_register to) (no_register_read from) h.registers in
    (leb-false record_registers to r.0, can_read p from r.1 (not-false (has_record p from) h.operands))
simple_is_well_formed p (set_field to field value) h =
    let r = or_parts (no_record_register to) (no_value_register value) h.registers in
    (leb-false record_registers to r.0, leb-false p.fields field h.fields, leb-false value_registers value r.1)
simple_is_well_formed p (set_at to at value) h =
    let all = or_parts (no_record_register to || no_value_register at) (no_value_register value) h.registers in
    let r = or_parts (no_record_register to) (no_value_register at) all.0 in
    (leb-false record_registers to r.0, leb-false value_registers at r.1, leb-false value_registers value all.1)
simple_is_well_formed p (emit_record from) h = leb-false record_registers from h.registers

placed_is_well_formed : (code : Code) (p : Place) → p.lists ≤ p.loops → AllByRecursion IsInRange (placed p code) → AllByRecursion Turns (placed p code) → IsWellFormed p.kind p.fields p.lists code
unfolding Turns
placed_is_well_formed stop p l h t = tt
placed_is_well_formed (plain a next) p l h t = (simple_is_well_formed p a h.0, placed_is_well_formed next p l h.1 t.1)
placed_is_well_formed (branch on body other next) p l h t =
    let rest = placed (in_if p) other ++ placed p next in (
      placed_is_well_formed body (in_if p) l (AllByRecursion-left IsInRange (placed (in_if p) body) rest h.1) (AllByRecursion-left Turns (placed (in_if p) body) rest t.1),
      placed_is_well_formed other (in_if p) l (AllByRecursion-left IsInRange (placed (in_if p) other) (placed p next) (AllByRecursion-right IsInRange (placed (in_if p) body) rest h.1))
          (AllByRecursion-left Turns (placed (in_if p) other) (placed p next) (AllByRecursion-right Turns (placed (in_if p) body) rest t.1)),
      placed_is_well_formed next p l (AllByRecursion-right IsInRange (placed (in_if p) other) (placed p next) (AllByRecursion-right IsInRange (placed (in_if p) body) rest h.1))
          (AllByRecursion-right Turns (placed (in_if p) other) (placed p next) (AllByRecursion-right Turns (placed (in_if p) body) rest t.1)),
      leb-false value_registers on h.0.registers,
    )
placed_is_well_formed (again count body next) p l h t =
    let q = in_repeat count p in
    let some = (or_parts (count == 0) (nat_lt turn_limit (p.repeats * count)) t.0.0).0 in
    let apart = eqb-false count 0 some in (
      omega (arith, apart),
      placed_is_well_formed body q (omega (arith, l)) (AllByRecursion-left IsInRange (placed q body) (placed p next) h.1) (AllByRecursion-left Turns (placed q body) (placed p next) t.1),
      placed_is_well_formed next p l (AllByRecursion-right IsInRange (placed q body) (placed p next) h.1) (AllByRecursion-right Turns (placed q body) (placed p next) t.1),
    )
placed_is_well_formed (each name list body next) p l h t =
    let q = in_each p in
    let both = or_parts (not (has_list p list)) (not (name == p.lists + 1)) h.0.operands in (
      eqb-true name (p.lists + 1) (not-false (name == p.lists + 1) both.1),
      has_the_list p list (not-false (has_list p list) both.0),
      placed_is_well_formed body q (omega (arith, l)) (AllByRecursion-left IsInRange (placed q body) (placed p next) h.1) (AllByRecursion-left Turns (placed q body) (placed p next) t.1),
      placed_is_well_formed next p l (AllByRecursion-right IsInRange (placed q body) (placed p next) h.1) (AllByRecursion-right Turns (placed q body) (placed p next) t.1),
      let few = leb-false loop_limit p.loops t.0.1 in omega (arith, few, l),
    )

pub valid_is_well_formed : (f : Function) (fields : ℕ) → IsValid f fields → IsWellFormed f.kind fields 0 f.body
valid_is_well_formed f fields h = placed_is_well_formed f.body (top_place f fields) (omega arith) (AreInRange-valid f fields h) (turns_unbroken 0 (placed (top_place f fields) f.body) (h.keeps Repeats) (h.keeps NestedLoops))
