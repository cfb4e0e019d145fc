-- A body doesn't change the registers that it doesn't assign, nor the records of the loops around it.
use Rattle.std.proofs.Common.{◌≡◌, ◌+◌, ℕ, zero, suc, Bool, true, false, ◌||◌, if◌then◌else◌, List, [], ◌∷◌, get_or, slice_set, take, refl, sym, ap, ◌∙◌, arith}
use Rattle.std.proofs.lemmas.Bool.{or_parts, eqb-false}
use Rattle.std.proofs.lemmas.List.{take-take, take-append-le, length-take-le}
use Rattle.pact_record.specs.declared.values.Value.{Value}
use Rattle.pact_record.specs.declared.values.Value.TheVariants.{Null, Int, Text}
use Rattle.pact_record.specs.Value.{is_true}
use Rattle.pact_record.specs.Record.{at_field}
use Rattle.pact_record.specs.Operations.{applied1, applied2}
use Rattle.tac_syntax.specs.declared.functions.Kind.{Kind}
use Rattle.tac_syntax.specs.Code.{Simple, load_int, load_text, load_null, move_value, get_field, get_at, get_key, apply_one, apply_two, new_record, copy_record, set_field, set_at, emit_record, Code, stop, plain, branch, again, each}
use Rattle.tac_syntax.specs.Call.{Store, numbered, at_numbered, set_numbered, value_in, record_in, named_record, key_values, empty_record, put_value, put_record, bind, after, rows_of}
use Rattle.tac_syntax.specs.Exec.{times, for_each, exec}
use Rattle.tac_syntax.specs.WellFormed.{IsWellFormed}
use Rattle.order_free.specs.Registers.{Register, value_at, record_at, RegisterSet, is_value, is_record, assigns, is_assigned}
use Rattle.order_free.proofs.ReorderedInputs.{input_itself}
use Rattle.order_free.proofs.AgreeingStores.{IsWhole, Agree, Agree-itself, Agree-chained, Agree-outside, IsWhole-put_value, IsWhole-put_record, IsWhole-bind, IsWhole-outside, loops-bind, value_in-put_other, record_in-put_other}

module _ (set : RegisterSet) where
  -- ---- statements of one line

  put_value-kept : (n : ℕ) (s : Store) (to : ℕ) (v : Value) → ((r : Register) → set r ≡ true → is_value to r ≡ false) → IsWhole n s → Agree n set s (put_value s to v)
  put_value-kept n s to v spares h = record {
    own = h;
    other = IsWhole-put_value to v h;
    fields = refl;
    inputs = input_itself s.input;
    loops = refl;
    values = λ k e. sym (value_in-put_other s to v k (eqb-false k to (spares (value_at k) e)));
    records = λ k _. refl;
  }

  put_record-kept : (n : ℕ) (s : Store) (to : ℕ) (r : List Value) → ((r : Register) → set r ≡ true → is_record to r ≡ false) → IsWhole n s → Agree n set s (put_record s to r)
  put_record-kept n s to r spares h = record {
    own = h;
    other = IsWhole-put_record to r h;
    fields = refl;
    inputs = input_itself s.input;
    loops = refl;
    values = λ k _. refl;
    records = λ k e. sym (record_in-put_other s to r k (eqb-false k to (spares (record_at k) e)));
  }

  pub after-kept : (n : ℕ) (s : Store) (a : Simple) → ((r : Register) → set r ≡ true → assigns a r ≡ false) → IsWhole n s → Agree n set s (after a s)
  after-kept n s (load_int to v) spares h = put_value-kept n s to (Int v) spares h
  after-kept n s (load_text to bytes) spares h = put_value-kept n s to (Text bytes) spares h
  after-kept n s (load_null to) spares h = put_value-kept n s to Null spares h
  after-kept n s (move_value to from) spares h = put_value-kept n s to (value_in s from) spares h
  after-kept n s (get_field to from field) spares h = put_value-kept n s to (at_field (named_record s from) field) spares h
  after-kept n s (get_at to from at) spares h = put_value-kept n s to (at_numbered (named_record s from) (numbered s.fields (value_in s at))) spares h
  after-kept n s (get_key to at) spares h = put_value-kept n s to (get_or (key_values s.input) at Null) spares h
  after-kept n s (apply_one to op a) spares h = put_value-kept n s to (applied1 op (value_in s a)) spares h
  after-kept n s (apply_two to op a b) spares h = put_value-kept n s to (applied2 op (value_in s a) (value_in s b)) spares h
  after-kept n s (new_record to) spares h = put_record-kept n s to (empty_record s.fields) spares h
  after-kept n s (copy_record to from) spares h = put_record-kept n s to (named_record s from) spares h
  after-kept n s (set_field to field v) spares h = put_record-kept n s to (slice_set (record_in s to) field (value_in s v)) spares h
  after-kept n s (set_at to at v) spares h = put_record-kept n s to (set_numbered (record_in s to) (numbered s.fields (value_in s at)) (value_in s v)) spares h
  after-kept n s (emit_record from) spares h = record {
    own = h;
    other = record { values = h.values; records = h.records; loops = h.loops };
    fields = refl;
    inputs = input_itself s.input;
    loops = refl;
    values = λ k _. refl;
    records = λ k _. refl;
  }

  -- ---- turns

  times-kept : (n : ℕ) (f : Store → Store) → ((s : Store) → IsWhole n s → Agree n set s (f s)) → (k : ℕ) (s : Store) → IsWhole n s → Agree n set s (times k f s)
  times-kept n f turn zero s h = Agree-itself n set s h
  times-kept n f turn (suc k) s h = let p = turn s h in Agree-chained p (times-kept n f turn k (f s) p.other)

  bind-kept : (n name : ℕ) (s : Store) (row : List Value) → name ≡ n + 1 → IsWhole n s → Agree n set s (bind s name row)
  bind-kept n name s row e h = record {
    own = h;
    other = IsWhole-outside n (bind s name row) (IsWhole-bind n name s row e h);
    fields = refl;
    inputs = input_itself s.input;
    loops = sym (ap (take n) (loops-bind n name s row e) ∙ take-append-le n (take n s.loops) (row ∷ []) (omega (arith, length-take-le n s.loops h.loops)) ∙ take-take n n s.loops (omega arith));
    values = λ k _. refl;
    records = λ k _. refl;
  }

  turn-kept : (n name : ℕ) (s t : Store) (row : List Value) → name ≡ n + 1 → IsWhole n s → Agree (n + 1) set (bind s name row) t → Agree n set s t
  turn-kept n name s t row e h p = Agree-chained (bind-kept n name s row e h) (Agree-outside n set (bind s name row) t p)

  for_each-kept : (n name : ℕ) (f : Store → Store) → name ≡ n + 1 → ((s : Store) → IsWhole (n + 1) s → Agree (n + 1) set s (f s)) → (rows : List (List Value)) (s : Store) → IsWhole n s
      → Agree n set s (for_each name rows f s)
  for_each-kept n name f e turn [] s h = Agree-itself n set s h
  for_each-kept n name f e turn (row ∷ rows) s h =
      let p = turn-kept n name s (f (bind s name row)) row e h (turn (bind s name row) (IsWhole-bind n name s row e h)) in
      Agree-chained p (for_each-kept n name f e turn rows (f (bind s name row)) p.other)

  either-kept : (n : ℕ) (s : Store) (b : Bool) (t u : Store) → Agree n set s t → Agree n set s u → Agree n set s (if b then t else u)
  either-kept n s true t u p q = p
  either-kept n s false t u p q = q

  -- ---- bodies

  module _ (kind : Kind) (F : ℕ) where
    pub exec-kept : (c : Code) (n : ℕ) (s : Store) → IsWellFormed kind F n c → ((r : Register) → set r ≡ true → is_assigned c r ≡ false) → IsWhole n s → Agree n set s (exec c s)
    exec-kept stop n s w spares h = Agree-itself n set s h
    exec-kept (plain a next) n s w spares h =
        let parts = λ (r : Register) (e : set r ≡ true). or_parts (assigns a r) (is_assigned next r) (spares r e) in
        let p = after-kept n s a (λ r e. (parts r e).0) h in
        Agree-chained p (exec-kept next n (after a s) w.1 (λ r e. (parts r e).1) p.other)
    exec-kept (branch on body other next) n s w spares h =
        let parts = λ (r : Register) (e : set r ≡ true). or_parts (is_assigned body r) (is_assigned other r || is_assigned next r) (spares r e) in
        let rest = λ (r : Register) (e : set r ≡ true). or_parts (is_assigned other r) (is_assigned next r) (parts r e).1 in
        let t = if is_true (value_in s on) then exec body s else exec other s in
        let p = either-kept n s (is_true (value_in s on)) (exec body s) (exec other s) (exec-kept body n s w.0 (λ r e. (parts r e).0) h) (exec-kept other n s w.1 (λ r e. (rest r e).0) h) in
        Agree-chained p (exec-kept next n t w.2 (λ r e. (rest r e).1) p.other)
    exec-kept (again count body next) n s w spares h =
        let parts = λ (r : Register) (e : set r ≡ true). or_parts (is_assigned body r) (is_assigned next r) (spares r e) in
        let p = times-kept n (exec body) (λ t whole. exec-kept body n t w.1 (λ r e. (parts r e).0) whole) count s h in
        Agree-chained p (exec-kept next n (times count (exec body) s) w.2 (λ r e. (parts r e).1) p.other)
    exec-kept (each name list body next) n s w spares h =
        let parts = λ (r : Register) (e : set r ≡ true). or_parts (is_assigned body r) (is_assigned next r) (spares r e) in
        let p = for_each-kept n name (exec body) w.0 (λ t whole. exec-kept body (n + 1) t w.2 (λ r e. (parts r e).0) whole) (rows_of s.input list) s h in
        Agree-chained p (exec-kept next n (for_each name (rows_of s.input list) (exec body) s) w.3 (λ r e. (parts r e).1) p.other)

    -- one turn of a loop
    pub exec_turn-kept : (c : Code) (n name : ℕ) (s : Store) (row : List Value) → name ≡ n + 1 → IsWellFormed kind F (n + 1) c → ((r : Register) → set r ≡ true → is_assigned c r ≡ false) → IsWhole n s
        → Agree n set s (exec c (bind s name row))
    exec_turn-kept c n name s row e w spares h = turn-kept n name s (exec c (bind s name row)) row e h (exec-kept c (n + 1) (bind s name row) w spares (IsWhole-bind n name s row e h))
