-- Each statement of one line preserves what is known of two calls.
use Rattle.std.proofs.Common.{◌≡◌, ◌<◌, ◌-◌, ◌&&◌, ◌||◌, not, Bool, true, false, Option, Some, None, ℕ, List, length, get_or, slice_set, refl, sym, ap, subst, ◌∙◌, arith}
use Rattle.std.proofs.lemmas.Bool.{and_parts, or_left, or_right}
use Rattle.pact_record.specs.declared.values.Value.{Value}
use Rattle.pact_record.specs.declared.values.Value.TheVariants.{Null, Int, Text}
use Rattle.pact_record.specs.Record.{at_field, joined_record}
use Rattle.pact_record.specs.Operations.{applied1, applied2}
use Rattle.tac_syntax.specs.declared.functions.Kind.{Kind}
use Rattle.tac_syntax.specs.declared.functions.Kind.TheVariants.{Map, Match, Cross, Reduce, CoGroup}
use Rattle.tac_syntax.specs.Rules.{is_map}
use Rattle.tac_syntax.specs.declared.statements.Rec.{Rec}
use Rattle.tac_syntax.specs.declared.statements.Rec.TheVariants.{Reg, Loop, Input, Left, Right, Join, First}
use Rattle.tac_syntax.specs.Code.{Simple, load_int, load_text, load_null, move_value, get_field, get_at, get_key, apply_one, apply_two, new_record, copy_record, set_field, set_at, emit_record}
use Rattle.tac_syntax.specs.Call.{CallInput, Store, numbered, at_numbered, set_numbered, value_in, record_in, named_record, put_value, put_record, key_values, empty_record, input_record, left_record, right_record, first_record, after}
use Rattle.tac_flow.specs.Known.{FieldSet, either, less, side_of, Side, left, Known, Held, State, key_at}
use Rattle.tac_flow.specs.Steps.{Scope, value_at, record_at, held_of, all_of, fields_by, fields_of, written_at, transfer, learns_value, learns_record, constant, key_deps, fresh}
use Rattle.tac_flow.proofs.ThreeLists.{Each-set, Each-get_or}
use Rattle.tac_flow.proofs.TwoCalls.{Sub, SameValue, SameRecord, AreTwins, AreCalls, with_registers}
use Rattle.tac_syntax.specs.WellFormed.{CanRead, IsWellFormedSimple}
use Rattle.tac_flow.proofs.RecordsOfTwo.{read_same, written_same, same_everywhere, same_held, outside_side, written_at_same}

module _ (R : FieldSet) (c : Scope) (x y : CallInput) (calls : AreCalls R c x y) (sides : List Side) where
  abbrev Twins : State → Store → Store → Type 0
  Twins k s t = AreTwins R c x y sides k s t

  abbrev Values : Store → Store → Known → Value → Value → Type 0
  Values s t v a b = SameValue R x y (length sides) s.loops t.loops v a b

  abbrev Records : Store → Store → Held → List Value → List Value → Type 0
  Records s t h r q = SameRecord R c.fields x y (length sides) s.loops t.loops h r q

  pub value_same : (k : State) (s t : Store) (n : ℕ) → Twins k s t → Values s t (value_at k n) (value_in s n) (value_in t n)
  value_same k s t n h = Each-get_or (Values s t) k.values s.values t.values n _ _ _ h.values (record { same = λ _. refl; own = tt; other = tt })

  pub record_same : (k : State) (s t : Store) (n : ℕ) → Twins k s t → Records s t (record_at c.fields k n) (record_in s n) (record_in t n)
  record_same k s t n h = Each-get_or (Records s t) k.records s.records t.records n _ _ _ h.records (record { base = λ _ _. refl; inside = λ _ _ _. refl; long = refl; few = omega arith })

  for_inputs : (s t : Store) (h : Held) (f : CallInput → List Value) → s.input ≡ x → t.input ≡ y → Records s t h (f x) (f y) → Records s t h (f s.input) (f t.input)
  for_inputs s t h f p q r =
      subst (λ (i : CallInput). Records s t h (f i) (f t.input)) (sym p) (subst (λ (i : CallInput). Records s t h (f x) (f i)) (sym q) r)

  pub named_same : (k : State) (s t : Store) (from : Rec) → CanRead c.kind (length sides) from → Twins k s t
      → Records s t (held_of c sides k from) (named_record s from) (named_record t from)
  named_same k s t (Reg n) can h = record_same k s t n h
  named_same k s t (Loop name) can h =
      let n = name - 1 in
      let below : n < length sides = omega (arith, can) in
      let own = h.loops.own n below in
      let other = h.loops.other n below in
      let there = h.loops.there n below in
      let side = get_or sides n left in
      let wide = ap (λ (r : List Value). length r) own ∙ calls.own.wide side (h.loops.place n) there in
      let other_wide = ap (λ (r : List Value). length r) other ∙ calls.other.wide side (h.loops.place n) (subst (λ (m : ℕ). h.loops.place n < m) (calls.places side) there) in
      record {
        base = record {
          place = h.loops.place n;
          there = there;
          in_scope = can;
          own = record { at = own; own = λ i _. ap (λ (r : List Value). at_field r i) own; long = ap (λ (r : List Value). length r) own };
          other = record { at = other; own = λ i _. ap (λ (r : List Value). at_field r i) other; long = ap (λ (r : List Value). length r) other };
        };
        inside = λ sub i m. cc;
        long = wide ∙ sym other_wide;
        few = omega (arith, wide);
      }
  named_same k s t Input can h = for_inputs s t (held_of c sides k Input) input_record h.input h.other_input (calls.given (length sides) s.loops t.loops sides k Input can)
  named_same k s t Left can h = for_inputs s t (held_of c sides k Left) left_record h.input h.other_input (calls.given (length sides) s.loops t.loops sides k Left can)
  named_same k s t Right can h = for_inputs s t (held_of c sides k Right) right_record h.input h.other_input (calls.given (length sides) s.loops t.loops sides k Right can)
  named_same k s t Join can h =
      for_inputs s t (held_of c sides k Join) (λ i. joined_record (left_record i) (right_record i)) h.input h.other_input (calls.given (length sides) s.loops t.loops sides k Join can)
  named_same k s t First can h = for_inputs s t (held_of c sides k First) first_record h.input h.other_input (calls.given (length sides) s.loops t.loops sides k First can)

  -- ---- reading a record in a field that isn't known

  everywhere : (k : State) (s t : Store) (from : Rec) → CanRead c.kind (length sides) from → Twins k s t → (w : FieldSet) → Sub (held_of c sides k from).depends R → Sub (less w (held_of c sides k from).changed) R
      → ((side : Side) → side_of (held_of c sides k from).base ≡ Some side → (i : ℕ) → w i ≡ false → fields_of c side i ≡ false)
      → (i : ℕ) → at_field (named_record s from) i ≡ at_field (named_record t from) i
  everywhere k s t from can h w deps kept within =
      same_everywhere R c x y calls (length sides) s.loops t.loops (held_of c sides k from) (named_record s from) (named_record t from) w (named_same k s t from can h) deps kept within

  at_numbered_same : (r q : List Value) (o : Option ℕ) → ((k : ℕ) → at_field r k ≡ at_field q k) → at_numbered r o ≡ at_numbered q o
  at_numbered_same r q (Some k) same = same k
  at_numbered_same r q None same = refl

  input_fields : (kind : Kind) (a b : FieldSet) (i : ℕ) → is_map kind ≡ true → a i ≡ false → fields_by kind a b left i ≡ false
  input_fields Map a b i m e = e
  input_fields Match a b i m e = cc
  input_fields Cross a b i m e = cc
  input_fields Reduce a b i m e = cc
  input_fields CoGroup a b i m e = cc

  -- the whole record that a statement reads is equal in both calls
  pub named_everywhere : (k : State) (s t : Store) (from : Rec) → CanRead c.kind (length sides) from → Twins k s t → Sub (all_of c sides k from) R
      → (i : ℕ) → at_field (named_record s from) i ≡ at_field (named_record t from) i
  named_everywhere k s t (Reg n) can h sub =
      let g = record_at c.fields k n in
      same_held R c x y calls (length sides) s.loops t.loops g (record_in s n) (record_in t n) (record_same k s t n h) (λ i m. sub i (or_left _ _ m)) (λ i m. sub i (or_right (g.depends i) _ m))
  named_everywhere k s t (Loop name) can h sub =
      let side = get_or sides (name - 1) left in
      everywhere k s t (Loop name) can h (fields_of c side) (λ i m. cc) (λ i m. sub i (and_parts (fields_of c side i) true m).0)
      (λ other e i n. subst (λ (u : Side). fields_of c u i ≡ false) (by_some side other e) n)
    where
      by_some : (a b : Side) → Some a ≡ Some b → a ≡ b
      by_some a b e = cc
  named_everywhere k s t Input can h sub =
      everywhere k s t Input can h c.left (λ i m. cc) (λ i m. sub i (and_parts (c.left i) true m).0) (λ other e i n. subst (λ (u : Side). fields_of c u i ≡ false) (by_some left other e) (input_fields c.kind c.left c.right i can n))
    where
      by_some : (a b : Side) → Some a ≡ Some b → a ≡ b
      by_some a b e = cc
  named_everywhere k s t Left can h sub =
      everywhere k s t Left can h (either c.left c.right) (λ i m. cc) (λ i m. sub i (only_one (c.left i) (c.right i) m)) (λ other e i n. outside_side R c x y calls (length sides) s.loops t.loops c.kind c.left c.right other i n)
    where
      only_one : (a b : Bool) → ((a || b) && not b) ≡ true → a ≡ true
      only_one true b e = refl
      only_one false true e = cc
      only_one false false e = cc
  named_everywhere k s t Right can h sub =
      everywhere k s t Right can h (either c.left c.right) (λ i m. cc) (λ i m. sub i (only_one (c.left i) (c.right i) m)) (λ other e i n. outside_side R c x y calls (length sides) s.loops t.loops c.kind c.left c.right other i n)
    where
      only_one : (a b : Bool) → ((a || b) && not a) ≡ true → b ≡ true
      only_one true b e = cc
      only_one false b e = (and_parts b true e).0
  named_everywhere k s t Join can h sub =
      everywhere k s t Join can h (either c.left c.right) (λ i m. cc) (λ i m. sub i (and_parts (either c.left c.right i) true m).0) (λ other e i n. outside_side R c x y calls (length sides) s.loops t.loops c.kind c.left c.right other i n)
  named_everywhere k s t First can h sub =
      everywhere k s t First can h (fields_of c left) (λ i m. cc) (λ i m. sub i (and_parts (fields_of c left i) true m).0) (λ other e i n. subst (λ (u : Side). fields_of c u i ≡ false) (by_some left other e) n)
    where
      by_some : (a b : Side) → Some a ≡ Some b → a ≡ b
      by_some a b e = cc

  with_value : (k : State) (s t : Store) (to : ℕ) (v : Known) (a b : Value) → Twins k s t → Values s t v a b → Twins (learns_value k to v) (put_value s to a) (put_value t to b)
  with_value k s t to v a b h e = with_registers R c x y sides k (learns_value k to v) s t (slice_set s.values to a) (slice_set t.values to b) s.records t.records h
      (Each-set (Values s t) k.values s.values t.values to v a b h.values e) h.records

  with_record : (k : State) (s t : Store) (to : ℕ) (g : Held) (r q : List Value) → Twins k s t → Records s t g r q → Twins (learns_record k to g) (put_record s to r) (put_record t to q)
  with_record k s t to g r q h e = with_registers R c x y sides k (learns_record k to g) s t s.values t.values (slice_set s.records to r) (slice_set t.records to q) h
      h.values (Each-set (Records s t) k.records s.records t.records to g r q h.records e)

  constant_same : (s t : Store) (v : Value) → Values s t constant v v
  constant_same s t v = record { same = λ _. refl; own = tt; other = tt }

  pub statement_same : (a : Simple) (k : State) (s t : Store) → IsWellFormedSimple c.kind c.fields (length sides) a → Twins k s t → Twins (transfer c sides a k) (after a s) (after a t)
  statement_same (load_int to n) k s t f h = with_value k s t to constant (Int n) (Int n) h (constant_same s t (Int n))
  statement_same (load_text to bytes) k s t f h = with_value k s t to constant (Text bytes) (Text bytes) h (constant_same s t (Text bytes))
  statement_same (load_null to) k s t f h = with_value k s t to constant Null Null h (constant_same s t Null)
  statement_same (move_value to from) k s t f h = with_value k s t to (value_at k from) (value_in s from) (value_in t from) h (value_same k s t from h)
  statement_same (get_field to from field) k s t f h =
      with_value k s t to _ (at_field (named_record s from) field) (at_field (named_record t from) field) h
      (read_same R c x y calls (length sides) s.loops t.loops (held_of c sides k from) (named_record s from) (named_record t from) field (named_same k s t from f.1 h))
  statement_same (get_at to from at) k s t f h =
      let number = value_same k s t at h in
      with_value k s t to _ (at_numbered (named_record s from) (numbered s.fields (value_in s at))) (at_numbered (named_record t from) (numbered t.fields (value_in t at))) h (record {
        same = λ sub.
            let same_number = number.same (λ i m. sub i (or_left _ _ m)) in
            let same = named_everywhere k s t from f.1 h (λ i m. sub i (or_right _ _ m)) in
            at_numbered_same (named_record s from) (named_record t from) (numbered s.fields (value_in s at)) same
            ∙ (λ i. at_numbered (named_record t from) (numbered ((h.fields ∙ sym h.other_fields) i) (same_number i)));
        own = tt;
        other = tt;
      })
  statement_same (get_key to at) k s t f h =
      let own = ap (λ (i : CallInput). get_or (key_values i) at Null) h.input in
      let other = ap (λ (i : CallInput). get_or (key_values i) at Null) h.other_input in
      with_value k s t to (record { deps = key_deps c at; origin = key_at at }) (get_or (key_values s.input) at Null) (get_or (key_values t.input) at Null) h
      (record { same = λ sub. own ∙ calls.same_key at sub ∙ sym other; own = own; other = other })
  statement_same (apply_one to op a) k s t f h =
      with_value k s t to _ (applied1 op (value_in s a)) (applied1 op (value_in t a)) h (record { same = λ sub. ap (applied1 op) ((value_same k s t a h).same sub); own = tt; other = tt })
  statement_same (apply_two to op a b) k s t f h =
      let p = value_same k s t a h in
      let q = value_same k s t b h in
      with_value k s t to _ (applied2 op (value_in s a) (value_in s b)) (applied2 op (value_in t a) (value_in t b)) h (record {
        same = λ sub i. applied2 op (p.same (λ j m. sub j (or_left _ _ m)) i) (q.same (λ j m. sub j (or_right _ _ m)) i);
        own = tt;
        other = tt;
      })
  statement_same (new_record to) k s t f h =
      with_record k s t to (fresh c) (empty_record s.fields) (empty_record t.fields) h
      (subst (λ (n : ℕ). Records s t (fresh c) (empty_record n) (empty_record t.fields)) (sym h.fields)
      (subst (λ (n : ℕ). Records s t (fresh c) (empty_record c.fields) (empty_record n)) (sym h.other_fields) (calls.fresh (length sides) s.loops t.loops)))
  statement_same (copy_record to from) k s t f h = with_record k s t to (held_of c sides k from) (named_record s from) (named_record t from) h (named_same k s t from f.1 h)
  statement_same (set_field to field value) k s t f h =
      with_record k s t to _ (slice_set (record_in s to) field (value_in s value)) (slice_set (record_in t to) field (value_in t value)) h
      (written_same R c x y calls (length sides) s.loops t.loops (record_at c.fields k to) (value_at k value) (record_in s to) (record_in t to) field (value_in s value) (value_in t value)
      (record_same k s t to h) (value_same k s t value h))
  statement_same (set_at to at value) k s t f h =
      let all : Records s t (written_at c (record_at c.fields k to) (value_at k at) (value_at k value)) (set_numbered (record_in s to) (numbered c.fields (value_in s at)) (value_in s value)) (set_numbered (record_in t to) (numbered c.fields (value_in t at)) (value_in t value)) =
      written_at_same R c x y calls (length sides) s.loops t.loops (record_at c.fields k to) (value_at k at) (value_at k value) (record_in s to) (record_in t to) (value_in s at) (value_in t at) (value_in s value) (value_in t value)
      (record_same k s t to h) (value_same k s t at h) (value_same k s t value h) in
      with_record k s t to _ (set_numbered (record_in s to) (numbered s.fields (value_in s at)) (value_in s value)) (set_numbered (record_in t to) (numbered t.fields (value_in t at)) (value_in t value)) h
      (subst (λ (n : ℕ). Records s t (written_at c (record_at c.fields k to) (value_at k at) (value_at k value)) (set_numbered (record_in s to) (numbered n (value_in s at)) (value_in s value)) (set_numbered (record_in t to) (numbered t.fields (value_in t at)) (value_in t value))) (sym h.fields)
      (subst (λ (n : ℕ). Records s t (written_at c (record_at c.fields k to) (value_at k at) (value_at k value)) (set_numbered (record_in s to) (numbered c.fields (value_in s at)) (value_in s value)) (set_numbered (record_in t to) (numbered n (value_in t at)) (value_in t value))) (sym h.other_fields) all))
  statement_same (emit_record from) k s t f h = record {
    values = h.values;
    records = h.records;
    loops = h.loops;
    input = h.input;
    other_input = h.other_input;
    fields = h.fields;
    other_fields = h.other_fields;
  }
