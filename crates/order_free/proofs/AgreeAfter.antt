-- If two stores agree on the registers that are live before a statement of one line, they agree on those that are live
-- after it, and emit the same.
use Rattle.std.proofs.Common.{◌≡◌, ◌<◌, ◌==◌, ◌-◌, ℕ, true, false, not, ◌&&◌, ◌||◌, List, [], ◌∷◌, ◌++◌, get_or, slice_set, refl, sym, ap, ◌∙◌, append-nil, arith}
use Rattle.std.proofs.lemmas.Bool.{and_from, or_left, or_right, eq-eqb}
use Rattle.std.proofs.lemmas.List.{get_or-take}
use Rattle.pact_record.specs.declared.values.Value.{Value}
use Rattle.pact_record.specs.declared.values.Value.TheVariants.{Null, Int, Text}
use Rattle.pact_record.specs.Record.{at_field, joined_record}
use Rattle.pact_record.specs.Operations.{applied1, applied2}
use Rattle.tac_syntax.specs.declared.functions.Kind.{Kind}
use Rattle.tac_syntax.specs.declared.statements.Rec.{Rec}
use Rattle.tac_syntax.specs.declared.statements.Rec.TheVariants.{Reg, Loop, Input, Left, Right, Join, First}
use Rattle.tac_syntax.specs.Code.{Simple, load_int, load_text, load_null, move_value, get_field, get_at, get_key, apply_one, apply_two, new_record, copy_record, set_field, set_at, emit_record, stop, plain}
use Rattle.tac_syntax.specs.Call.{Store, numbered, at_numbered, set_numbered, value_in, record_in, named_record, key_values, empty_record, after}
use Rattle.tac_syntax.specs.WellFormed.{CanRead, IsWellFormedSimple}
use Rattle.order_free.specs.Registers.{Register, value_at, record_at, RegisterSet, is_value, is_register_of, is_first, has_operand, assigns, reads_first}
use Rattle.order_free.specs.Liveness.{live}
use Rattle.order_free.proofs.AgreeingStores.{Agree, Agree-fewer, Agree-put_value, Agree-put_record}

-- live before a statement
abbrev pub live_before : Simple → RegisterSet → RegisterSet
live_before a set = live (plain a stop) set

pub live_before-operand : (a : Simple) (set : RegisterSet) (r : Register) → has_operand a r ≡ true → live_before a set r ≡ true
live_before-operand a set r h = or_left (has_operand a r) (set r && not (assigns a r)) h

pub named_record-agree : (kind : Kind) (n : ℕ) (set : RegisterSet) (s t : Store) (from : Rec) → CanRead kind n from → is_first from ≡ false → ((r : Register) → is_register_of from r ≡ true → set r ≡ true) → Agree n set s t
    → named_record s from ≡ named_record t from
named_record-agree kind n set s t (Reg k) can f has h = h.records k (has (record_at k) (eq-eqb k k refl))
named_record-agree kind n set s t (Loop name) can f has h =
    let lt : name - 1 < n = omega (arith, can) in
    sym (get_or-take n s.loops (name - 1) [] lt) ∙ ap (λ (l : List (List Value)). get_or l (name - 1) []) h.loops ∙ get_or-take n t.loops (name - 1) [] lt
named_record-agree kind n set s t Input can f has h = h.inputs.input
named_record-agree kind n set s t Left can f has h = h.inputs.left
named_record-agree kind n set s t Right can f has h = h.inputs.right
named_record-agree kind n set s t Join can f has h = λ i. joined_record (h.inputs.left i) (h.inputs.right i)
named_record-agree kind n set s t First can f has h = cc

module _ (kind : Kind) (F n : ℕ) (set : RegisterSet) (s t : Store) where
  -- registers that aren't assigned stay live
  unassigned : (a : Simple) → Agree n (live_before a set) s t → Agree n (λ r. set r && not (assigns a r)) s t
  unassigned a h = Agree-fewer (live_before a set) (λ r. set r && not (assigns a r)) (λ r e. or_right (has_operand a r) (set r && not (assigns a r)) e) h

  operand : (a : Simple) (r : Register) → has_operand a r ≡ true → live_before a set r ≡ true
  operand a r e = live_before-operand a set r e

  pub after-agree : (a : Simple) → IsWellFormedSimple kind F n a → reads_first a ≡ false → Agree n (live_before a set) s t → Agree n set (after a s) (after a t)
  after-agree (load_int to v) w f h = Agree-put_value set to (Int v) (Int v) w (unassigned (load_int to v) h) refl
  after-agree (load_text to bytes) w f h = Agree-put_value set to (Text bytes) (Text bytes) w (unassigned (load_text to bytes) h) refl
  after-agree (load_null to) w f h = Agree-put_value set to Null Null w (unassigned (load_null to) h) refl
  after-agree (move_value to from) w f h =
      let a = move_value to from in Agree-put_value set to (value_in s from) (value_in t from) w.0 (unassigned a h) (h.values from (operand a (value_at from) (eq-eqb from from refl)))
  after-agree (get_field to from field) w f h =
      let a = get_field to from field in
      Agree-put_value set to (at_field (named_record s from) field) (at_field (named_record t from) field) w.0 (unassigned a h)
      (ap (λ (r : List Value). at_field r field) (named_record-agree kind n (live_before a set) s t from w.1 f (operand a) h))
  after-agree (get_at to from at) w f h =
      let a = get_at to from at in
      let p = named_record-agree kind n (live_before a set) s t from w.1 f (λ r e. operand a r (or_left (is_register_of from r) (is_value at r) e)) h in
      let q = h.values at (operand a (value_at at) (or_right (is_register_of from (value_at at)) (at == at) (eq-eqb at at refl))) in
      Agree-put_value set to (at_numbered (named_record s from) (numbered s.fields (value_in s at))) (at_numbered (named_record t from) (numbered t.fields (value_in t at))) w.0 (unassigned a h)
      (λ i. at_numbered (p i) (numbered (h.fields i) (q i)))
  after-agree (get_key to at) w f h =
      Agree-put_value set to (get_or (key_values s.input) at Null) (get_or (key_values t.input) at Null) w.0 (unassigned (get_key to at) h) (ap (λ (k : List Value). get_or k at Null) h.inputs.key)
  after-agree (apply_one to op b) w f h =
      let a = apply_one to op b in
      Agree-put_value set to (applied1 op (value_in s b)) (applied1 op (value_in t b)) w.0 (unassigned a h) (ap (applied1 op) (h.values b (operand a (value_at b) (eq-eqb b b refl))))
  after-agree (apply_two to op b c) w f h =
      let a = apply_two to op b c in
      let p = h.values b (operand a (value_at b) (or_left (b == b) (b == c) (eq-eqb b b refl))) in
      let q = h.values c (operand a (value_at c) (or_right (c == b) (c == c) (eq-eqb c c refl))) in
      Agree-put_value set to (applied2 op (value_in s b) (value_in s c)) (applied2 op (value_in t b) (value_in t c)) w.0 (unassigned a h) (λ i. applied2 op (p i) (q i))
  after-agree (new_record to) w f h = Agree-put_record set to (empty_record s.fields) (empty_record t.fields) w (unassigned (new_record to) h) (ap empty_record h.fields)
  after-agree (copy_record to from) w f h =
      let a = copy_record to from in
      Agree-put_record set to (named_record s from) (named_record t from) w.0 (unassigned a h) (named_record-agree kind n (live_before a set) s t from w.1 f (operand a) h)
  after-agree (set_field to field v) w f h =
      let a = set_field to field v in
      let p = h.records to (operand a (record_at to) (or_left (to == to) false (eq-eqb to to refl))) in
      let q = h.values v (operand a (value_at v) (or_right false (v == v) (eq-eqb v v refl))) in
      Agree-put_record set to (slice_set (record_in s to) field (value_in s v)) (slice_set (record_in t to) field (value_in t v)) w.0 (unassigned a h) (λ i. slice_set (p i) field (q i))
  after-agree (set_at to at v) w f h =
      let a = set_at to at v in
      let p = h.records to (operand a (record_at to) (or_left (to == to) false (eq-eqb to to refl))) in
      let number = h.values at (operand a (value_at at) (or_right false (at == at || at == v) (or_left (at == at) (at == v) (eq-eqb at at refl)))) in
      let q = h.values v (operand a (value_at v) (or_right false (v == at || v == v) (or_right (v == at) (v == v) (eq-eqb v v refl)))) in
      Agree-put_record set to (set_numbered (record_in s to) (numbered s.fields (value_in s at)) (value_in s v)) (set_numbered (record_in t to) (numbered t.fields (value_in t at)) (value_in t v)) w.0 (unassigned a h)
      (λ i. set_numbered (p i) (numbered (h.fields i) (number i)) (q i))
  after-agree (emit_record from) w f h =
      let kept = unassigned (emit_record from) h in
      record {
        own = record { values = h.own.values; records = h.own.records; loops = h.own.loops };
        other = record { values = h.other.values; records = h.other.records; loops = h.other.loops };
        fields = h.fields;
        inputs = h.inputs;
        loops = h.loops;
        values = λ k e. kept.values k (and_from (set (value_at k)) true e refl);
        records = λ k e. kept.records k (and_from (set (record_at k)) true e refl);
      }

-- ---- the records that a statement emits

abbrev pub emitted_by : Simple → Store → List (List Value)
emitted_by (emit_record from) s = record_in s from ∷ []
emitted_by a s = []

pub emitted-after : (a : Simple) (s : Store) → (after a s).emitted ≡ s.emitted ++ emitted_by a s
emitted-after (emit_record from) s = refl
emitted-after a s = sym (append-nil s.emitted)

pub emitted_by-agree : (a : Simple) (n : ℕ) (set : RegisterSet) (s t : Store) → Agree n (live_before a set) s t → emitted_by a s ≡ emitted_by a t
emitted_by-agree (emit_record from) n set s t h =
    ap (λ (r : List Value). r ∷ []) (h.records from (live_before-operand (emit_record from) set (record_at from) (eq-eqb from from refl)))
emitted_by-agree a n set s t h = refl
