-- The order test of a function: a valid function names only existing registers, and one that passes permutes.
use Rattle.std.proofs.Common.{◌≡◌, ◌↔◌, ◌⊎◌, ◌+◌, ℕ, Bool, false, IsTrue, inl, inr, sym, ap, subst, ◌∙◌}
use Rattle.tac_syntax.specs.declared.functions.Function.{Function}
use Rattle.tac_syntax.specs.declared.functions.Kind.{Kind}
use Rattle.tac_syntax.specs.declared.functions.Kind.TheVariants.{Reduce, CoGroup}
use Rattle.tac_syntax.specs.declared.statements.Rec.{Rec}
use Rattle.tac_syntax.specs.declared.statements.Rec.TheVariants.{Reg}
use Rattle.tac_syntax.specs.Code.{Simple, load_int, load_text, load_null, move_value, get_field, get_at, get_key, apply_one, apply_two, new_record, copy_record, set_field, set_at, emit_record, Code, stop, plain, branch, again, each}
use Rattle.tac_syntax.specs.Valid.{IsValid}
use Rattle.tac_syntax.specs.WellFormed.{CanRead, IsWellFormedSimple, IsWellFormed}
use Rattle.tac_syntax.proofs.WellFormed.{valid_is_well_formed}
use Rattle.order_free.specs.Registers.{Register, RegisterSet, has_first}
use Rattle.order_free.specs.RegistersInRange.{IsRecordInRange, AreOperandsInRange, IsTargetInRange, AreRegistersInRange}
use Rattle.order_free.specs.OrderFree.{AreLoopsFree, IsGroupFree, IsOrderFree}
use Rattle.order_free.specs.Permutes.{Permutes}
use Rattle.order_free.proofs.PermutedOutputs.{valid-permutes}

-- ---- registers in range

module _ (kind : Kind) (F : ℕ) where
  record_in_range : (depth : ℕ) (from : Rec) → CanRead kind depth from → IsRecordInRange from
  record_in_range depth (Reg k) h = h
  record_in_range depth from h = tt

  operands_in_range : (depth : ℕ) (s : Simple) → IsWellFormedSimple kind F depth s → AreOperandsInRange s
  operands_in_range depth (move_value to from) h = h.1
  operands_in_range depth (get_field to from field) h = record_in_range depth from h.1
  operands_in_range depth (get_at to from at) h = (record_in_range depth from h.1, h.2)
  operands_in_range depth (apply_one to op a) h = h.1
  operands_in_range depth (apply_two to op a b) h = (h.1, h.2)
  operands_in_range depth (copy_record to from) h = record_in_range depth from h.1
  operands_in_range depth (set_field to field value) h = (h.0, h.2)
  operands_in_range depth (set_at to at value) h = h
  operands_in_range depth (emit_record from) h = h
  operands_in_range depth s h = tt

  target_in_range : (depth : ℕ) (s : Simple) → IsWellFormedSimple kind F depth s → IsTargetInRange s
  target_in_range depth (load_int to value) h = h
  target_in_range depth (load_text to bytes) h = h
  target_in_range depth (load_null to) h = h
  target_in_range depth (move_value to from) h = h.0
  target_in_range depth (get_field to from field) h = h.0
  target_in_range depth (get_at to from at) h = h.0
  target_in_range depth (get_key to at) h = h.0
  target_in_range depth (apply_one to op a) h = h.0
  target_in_range depth (apply_two to op a b) h = h.0
  target_in_range depth (new_record to) h = h
  target_in_range depth (copy_record to from) h = h.0
  target_in_range depth (set_field to field value) h = h.0
  target_in_range depth (set_at to at value) h = h.0
  target_in_range depth (emit_record from) h = tt

  well_formed_in_range : (depth : ℕ) (c : Code) → IsWellFormed kind F depth c → AreRegistersInRange c
  well_formed_in_range depth stop h = tt
  well_formed_in_range depth (plain s next) h = (target_in_range depth s h.0, operands_in_range depth s h.0, well_formed_in_range depth next h.1)
  well_formed_in_range depth (branch on body other next) h = (h.3, well_formed_in_range depth body h.0, well_formed_in_range depth other h.1, well_formed_in_range depth next h.2)
  well_formed_in_range depth (again count body next) h = (well_formed_in_range depth body h.1, well_formed_in_range depth next h.2)
  well_formed_in_range depth (each name list body next) h = (well_formed_in_range (depth + 1) body h.2, well_formed_in_range depth next h.3)

-- a function as the code holds it
pub valid_in_range : (f g : Function) (fields : ℕ) → g ≡ f → IsValid f fields → AreRegistersInRange g.body
valid_in_range f g fields e h = subst (λ (x : Function). AreRegistersInRange x.body) (sym e) (well_formed_in_range f.kind fields 0 f.body (valid_is_well_formed f fields h))

-- ---- the test

pub free-group : (body : Code) (behind : RegisterSet) (found : Bool) → has_first body ≡ false → ((r : Register) → behind r ≡ false) → (IsTrue found ↔ AreLoopsFree body behind) → IsTrue found ↔ IsGroupFree body
free-group body behind found first none test =
    let free = subst (λ (x : RegisterSet). IsTrue found ↔ AreLoopsFree body x) (λ i r. none r i) test in
    (λ h. (first, free.0 h), λ group. free.1 group.1)

pub free-permutes : (f g : Function) (fields : ℕ) → g ≡ f → IsValid f fields → (g.kind ≡ Reduce) ⊎ (g.kind ≡ CoGroup) → IsGroupFree g.body → Permutes f.kind fields f.body
free-permutes f g fields e valid is free =
    let group = subst (λ (x : Function). IsGroupFree x.body) e free in
    valid-permutes f fields valid (elim is as (λ _. IsOrderFree f.kind f.body) [
      | inl p ↦ subst (λ (k : Kind). IsOrderFree k f.body) (sym p ∙ ap (λ (x : Function). x.kind) e) group
      | inr p ↦ subst (λ (k : Kind). IsOrderFree k f.body) (sym p ∙ ap (λ (x : Function). x.kind) e) group
    ])
