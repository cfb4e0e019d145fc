-- The effect of a body, besides the values it leaves in registers: it emits records, and feeds operands to
-- accumulators.
use Rattle.std.proofs.Common.{◌≡◌, ◌≢◌, ◌==◌, ℕ, true, not, ◌&&◌, List, [], ◌++◌, refl, sym, ap, subst, ◌∙◌, append-nil, append_assoc}
use Rattle.std.proofs.lemmas.Bool.{and_parts, not-true, eq-eqb, eqb-true, eqb-false}
use Rattle.pact_record.specs.declared.values.Value.{Value}
use Rattle.pact_record.specs.declared.operations.Op2.{Op2}
use Rattle.pact_record.specs.declared.operations.Op2.TheVariants.{AddW, Min, Max}
use Rattle.tac_syntax.specs.Code.{Simple, apply_two}
use Rattle.tac_syntax.specs.Call.{Store, value_in}
use Rattle.order_free.specs.declared.accumulators.Accumulation.{Accumulation}
use Rattle.order_free.specs.declared.accumulators.Accumulation.TheVariants.{Sum, Least, Greatest}
use Rattle.order_free.specs.Registers.{value_at, RegisterSet, assigns}
use Rattle.order_free.specs.Accumulators.{op_of, is_op_of, accumulates}
use Rattle.order_free.proofs.Accumulated.{accumulated, accumulated-append}

-- ---- effects

-- the records emitted, and the operands of each accumulator
pub record Effect : Type 0 where
  pub emits : List (List Value)
  pub operands : ℕ → List Value

abbrev pub both : Effect → Effect → Effect
both e f = record { emits = e.emits ++ f.emits; operands = λ d. e.operands d ++ f.operands d }

abbrev pub no_effect : Effect
no_effect = record { emits = []; operands = λ d. [] }

-- the accumulators, and the operation of each
module _ (accumulators : RegisterSet) (by : ℕ → Accumulation) where
  pub record HasEffect (e : Effect) (s t : Store) : Type 0 where
    pub emitted : t.emitted ≡ s.emitted ++ e.emits
    pub taken : (d : ℕ) → accumulators (value_at d) ≡ true → value_in t d ≡ accumulated (by d) (value_in s d) (e.operands d)

  pub HasEffect-none : (s : Store) → HasEffect no_effect s s
  HasEffect-none s = record { emitted = sym (append-nil s.emitted); taken = λ d _. refl }

  pub HasEffect-both : {e f : Effect} {s t u : Store} → HasEffect e s t → HasEffect f t u → HasEffect (both e f) s u
  HasEffect-both {e} {f} {s} h k = record {
    emitted = k.emitted ∙ ap (λ (l : List (List Value)). l ++ f.emits) h.emitted ∙ append_assoc s.emitted e.emits f.emits;
    taken = λ d i. k.taken d i ∙ ap (λ (x : Value). accumulated (by d) x (f.operands d)) (h.taken d i) ∙ sym (accumulated-append (by d) (e.operands d) (f.operands d) (value_in s d));
  }

-- ---- the statements of accumulators

op_of-is : (by : Accumulation) (o : Op2) → is_op_of by o ≡ true → o ≡ op_of by
op_of-is Sum AddW h = refl
op_of-is Least Min h = refl
op_of-is Greatest Max h = refl
op_of-is by o h = cc

-- `vd = OP vd vc`
pub data IsAccumulating (by : Accumulation) : ℕ → Simple → Type 0 where
  accumulating : (d c : ℕ) → d ≢ c → IsAccumulating by d (apply_two d (op_of by) d c)

pub accumulates-is : (by : Accumulation) (d : ℕ) (a : Simple) → accumulates by (value_at d) a ≡ true → IsAccumulating by d a
accumulates-is by d (apply_two to o b c) h =
    let p = and_parts (is_op_of by o) ((d == to) && ((d == b) && not (d == c))) h in
    let q = and_parts (d == to) ((d == b) && not (d == c)) p.1 in
    let r = and_parts (d == b) (not (d == c)) q.1 in
    let made : IsAccumulating by d (apply_two d (op_of by) d c) = accumulating d c (eqb-false d c (not-true (d == c) r.1)) in
    subst (λ (x : ℕ). IsAccumulating by d (apply_two x o b c)) (eqb-true d to q.0)
    (subst (λ (x : Op2). IsAccumulating by d (apply_two d x b c)) (sym (op_of-is by o p.0))
    (subst (λ (x : ℕ). IsAccumulating by d (apply_two d (op_of by) x c)) (eqb-true d b r.0) made))
accumulates-is by d a h = cc

pub IsAccumulating-assigns : (by : Accumulation) (d : ℕ) (a : Simple) → IsAccumulating by d a → assigns a (value_at d) ≡ true
IsAccumulating-assigns by d _ (accumulating _ c apart) = eq-eqb d d refl
