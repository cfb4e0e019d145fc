-- Two stores inside loops that agree on a set of registers. Writing a register, and entering and leaving a loop,
-- preserve this.
use Rattle.std.proofs.Common.{◌≡◌, ◌≢◌, ◌≤◌, ◌<◌, ◌==◌, ◌+◌, ◌-◌, ℕ, true, not, ◌&&◌, inl, inr, List, [], ◌∷◌, ◌++◌, length, take, refl, sym, ap, subst, ◌∙◌, arith}
use Rattle.std.proofs.lemmas.Bool.{cases_Bool, eqb-true, eqb-false, and_from, not_from_false}
use Rattle.std.proofs.lemmas.List.{get_or-set_same, get_or-set_other, length-set, take-take, length-take-le, length-append}
use Rattle.pact_record.specs.declared.values.Value.{Value}
use Rattle.pact_record.specs.declared.values.Value.TheVariants.{Null}
use Rattle.tac_syntax.specs.Limits.{value_registers, record_registers}
use Rattle.tac_syntax.specs.Call.{Store, value_in, record_in, put_value, put_record, bind}
use Rattle.order_free.specs.Registers.{Register, value_at, record_at, RegisterSet, is_value, is_record}
use Rattle.order_free.proofs.ReorderedInputs.{SameUpToOrder, input_itself, inputs_turned, inputs_chained}

-- a store inside n loops: it has every register, and a record for each of the loops
pub record IsWhole (n : ℕ) (s : Store) : Type 0 where
  pub values : length s.values ≡ value_registers
  pub records : length s.records ≡ record_registers
  pub loops : n ≤ length s.loops

pub record Agree (n : ℕ) (set : RegisterSet) (s t : Store) : Type 0 where
  pub own : IsWhole n s
  pub other : IsWhole n t
  pub fields : s.fields ≡ t.fields
  pub inputs : SameUpToOrder s.input t.input
  pub loops : take n s.loops ≡ take n t.loops
  pub values : (k : ℕ) → set (value_at k) ≡ true → value_in s k ≡ value_in t k
  pub records : (k : ℕ) → set (record_at k) ≡ true → record_in s k ≡ record_in t k

-- ---- laws

pub Agree-itself : (n : ℕ) (set : RegisterSet) (s : Store) → IsWhole n s → Agree n set s s
Agree-itself n set s h = record { own = h; other = h; fields = refl; inputs = input_itself s.input; loops = refl; values = λ k _. refl; records = λ k _. refl }

pub Agree-turned : {n : ℕ} {set : RegisterSet} {s t : Store} → Agree n set s t → Agree n set t s
Agree-turned h = record {
  own = h.other;
  other = h.own;
  fields = sym h.fields;
  inputs = inputs_turned h.inputs;
  loops = sym h.loops;
  values = λ k e. sym (h.values k e);
  records = λ k e. sym (h.records k e);
}

pub Agree-chained : {n : ℕ} {set : RegisterSet} {s t u : Store} → Agree n set s t → Agree n set t u → Agree n set s u
Agree-chained h g = record {
  own = h.own;
  other = g.other;
  fields = h.fields ∙ g.fields;
  inputs = inputs_chained h.inputs g.inputs;
  loops = h.loops ∙ g.loops;
  values = λ k e. h.values k e ∙ g.values k e;
  records = λ k e. h.records k e ∙ g.records k e;
}

pub Agree-fewer : {n : ℕ} (set fewer : RegisterSet) {s t : Store} → ((r : Register) → fewer r ≡ true → set r ≡ true) → Agree n set s t → Agree n fewer s t
Agree-fewer set fewer f h = record {
  own = h.own;
  other = h.other;
  fields = h.fields;
  inputs = h.inputs;
  loops = h.loops;
  values = λ k e. h.values k (f (value_at k) e);
  records = λ k e. h.records k (f (record_at k) e);
}

-- ---- writing a register

pub IsWhole-put_value : {n : ℕ} {s : Store} (to : ℕ) (v : Value) → IsWhole n s → IsWhole n (put_value s to v)
IsWhole-put_value {s = s} to v h = record { values = length-set s.values to v ∙ h.values; records = h.records; loops = h.loops }

pub IsWhole-put_record : {n : ℕ} {s : Store} (to : ℕ) (r : List Value) → IsWhole n s → IsWhole n (put_record s to r)
IsWhole-put_record {s = s} to r h = record { values = h.values; records = length-set s.records to r ∙ h.records; loops = h.loops }

-- the register holds the new value, and the others are unchanged
pub value_in-put : (n : ℕ) (s : Store) (to : ℕ) (v : Value) → IsWhole n s → to < value_registers → value_in (put_value s to v) to ≡ v
value_in-put n s to v h lt = get_or-set_same s.values to v Null (omega (arith, h.values, lt))

pub value_in-put_other : (s : Store) (to : ℕ) (v : Value) (k : ℕ) → k ≢ to → value_in (put_value s to v) k ≡ value_in s k
value_in-put_other s to v k apart = get_or-set_other s.values to k v Null apart

record_in-put : (n : ℕ) (s : Store) (to : ℕ) (r : List Value) → IsWhole n s → to < record_registers → record_in (put_record s to r) to ≡ r
record_in-put n s to r h lt = get_or-set_same s.records to r [] (omega (arith, h.records, lt))

pub record_in-put_other : (s : Store) (to : ℕ) (r : List Value) (k : ℕ) → k ≢ to → record_in (put_record s to r) k ≡ record_in s k
record_in-put_other s to r k apart = get_or-set_other s.records to k r [] apart

pub Agree-put_value : {n : ℕ} (set : RegisterSet) {s t : Store} (to : ℕ) (v w : Value) → to < value_registers → Agree n (λ r. set r && not (is_value to r)) s t → v ≡ w
    → Agree n set (put_value s to v) (put_value t to w)
Agree-put_value {n} set {s} {t} to v w lt h e = record {
  own = IsWhole-put_value to v h.own;
  other = IsWhole-put_value to w h.other;
  fields = h.fields;
  inputs = h.inputs;
  loops = h.loops;
  values = λ k i. at k i;
  records = λ k i. h.records k (and_from (set (record_at k)) true i refl);
} where
  at : (k : ℕ) → set (value_at k) ≡ true → value_in (put_value s to v) k ≡ value_in (put_value t to w) k
  at k i = elim (cases_Bool (k == to)) as (λ _. value_in (put_value s to v) k ≡ value_in (put_value t to w) k) [
    | inl p ↦
        subst (λ (j : ℕ). value_in (put_value s to v) j ≡ value_in (put_value t to w) j) (sym (eqb-true k to p))
        (value_in-put n s to v h.own lt ∙ e ∙ sym (value_in-put n t to w h.other lt))
    | inr p ↦
        let apart = eqb-false k to p in
        value_in-put_other s to v k apart ∙ h.values k (and_from (set (value_at k)) (not (k == to)) i (not_from_false (k == to) p)) ∙ sym (value_in-put_other t to w k apart)
  ]

pub Agree-put_record : {n : ℕ} (set : RegisterSet) {s t : Store} (to : ℕ) (v w : List Value) → to < record_registers → Agree n (λ r. set r && not (is_record to r)) s t → v ≡ w
    → Agree n set (put_record s to v) (put_record t to w)
Agree-put_record {n} set {s} {t} to v w lt h e = record {
  own = IsWhole-put_record to v h.own;
  other = IsWhole-put_record to w h.other;
  fields = h.fields;
  inputs = h.inputs;
  loops = h.loops;
  values = λ k i. h.values k (and_from (set (value_at k)) true i refl);
  records = λ k i. at k i;
} where
  at : (k : ℕ) → set (record_at k) ≡ true → record_in (put_record s to v) k ≡ record_in (put_record t to w) k
  at k i = elim (cases_Bool (k == to)) as (λ _. record_in (put_record s to v) k ≡ record_in (put_record t to w) k) [
    | inl p ↦
        subst (λ (j : ℕ). record_in (put_record s to v) j ≡ record_in (put_record t to w) j) (sym (eqb-true k to p))
        (record_in-put n s to v h.own lt ∙ e ∙ sym (record_in-put n t to w h.other lt))
    | inr p ↦
        let apart = eqb-false k to p in
        record_in-put_other s to v k apart ∙ h.records k (and_from (set (record_at k)) (not (k == to)) i (not_from_false (k == to) p)) ∙ sym (record_in-put_other t to w k apart)
  ]

-- ---- entering and leaving a loop

pub loops-bind : (n name : ℕ) (s : Store) (row : List Value) → name ≡ n + 1 → (bind s name row).loops ≡ take n s.loops ++ row ∷ []
loops-bind n name s row e = let d : name - 1 ≡ n = omega (arith, e) in ap (λ (k : ℕ). take k s.loops ++ row ∷ []) d

pub IsWhole-bind : (n name : ℕ) (s : Store) (row : List Value) → name ≡ n + 1 → IsWhole n s → IsWhole (n + 1) (bind s name row)
IsWhole-bind n name s row e h = record {
  values = h.values;
  records = h.records;
  loops = omega (arith, ap (λ (l : List (List Value)). length l) (loops-bind n name s row e), length-append (take n s.loops) (row ∷ []), length-take-le n s.loops h.loops);
}

pub Agree-bind : (n name : ℕ) (set : RegisterSet) (s t : Store) (row : List Value) → name ≡ n + 1 → Agree n set s t → Agree (n + 1) set (bind s name row) (bind t name row)
Agree-bind n name set s t row e h = record {
  own = IsWhole-bind n name s row e h.own;
  other = IsWhole-bind n name t row e h.other;
  fields = h.fields;
  inputs = h.inputs;
  loops = ap (take (n + 1)) (loops-bind n name s row e ∙ ap (λ (l : List (List Value)). l ++ row ∷ []) h.loops ∙ sym (loops-bind n name t row e));
  values = h.values;
  records = h.records;
}

pub IsWhole-outside : (n : ℕ) (s : Store) → IsWhole (n + 1) s → IsWhole n s
IsWhole-outside n s h = record { values = h.values; records = h.records; loops = omega (arith, h.loops) }

pub Agree-outside : (n : ℕ) (set : RegisterSet) (s t : Store) → Agree (n + 1) set s t → Agree n set s t
Agree-outside n set s t h = record {
  own = IsWhole-outside n s h.own;
  other = IsWhole-outside n t h.other;
  fields = h.fields;
  inputs = h.inputs;
  loops = sym (take-take n (n + 1) s.loops (omega arith)) ∙ ap (take n) h.loops ∙ take-take n (n + 1) t.loops (omega arith);
  values = h.values;
  records = h.records;
}
