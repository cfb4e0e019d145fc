-- The effect of the statements that the sender and the merger add to the function's own.
use Rattle.std.proofs.Common.{◌≡◌, ◌≢◌, ◌<◌, ◌+◌, ◌==◌, ◌⊎◌, ℕ, pos, true, inl, inr, List, [], ◌∷◌, ◌++◌, length, get_or, map, slice_set, refl, sym, ap, subst, ◌∙◌, arith}
use Rattle.std.proofs.lemmas.Bool.{cases_Bool, or_cases, eqb-true, eqb-false}
use Rattle.std.proofs.lemmas.List.{get_or-set_same, get_or-set_other, length-set, length-append, length-replicate}
use Rattle.pact_record.specs.declared.values.Value.{Value}
use Rattle.pact_record.specs.declared.values.Value.TheVariants.{Null, Int}
use Rattle.pact_record.specs.Record.{at_field, key_of}
use Rattle.pact_record.specs.Operations.{applied2}
use Rattle.plan_trees.specs.Distinct.{IsAbsent, AreDifferent}
use Rattle.tac_syntax.specs.Limits.{value_registers}
use Rattle.tac_syntax.specs.Code.{emit_record, Code, stop, plain}
use Rattle.tac_syntax.specs.Call.{Store, value_in, record_in, loop_record, key_values, put_value, put_record, empty_record}
use Rattle.tac_syntax.specs.Exec.{exec}
use Rattle.order_free.specs.declared.accumulators.Accumulation.{Accumulation}
use Rattle.order_free.specs.declared.accumulators.Accumulation.TheVariants.{Sum, Least, Greatest}
use Rattle.order_free.specs.Accumulators.{op_of}
use Rattle.order_free.proofs.AgreeingStores.{IsWhole, IsWhole-put_value, IsWhole-put_record, value_in-put, value_in-put_other}
use Rattle.combine_rule.specs.declared.slots.Slot.{Slot}
use Rattle.combine_rule.specs.Slots.{is_among}
use Rattle.combine_rule.specs.Halves.{from_zero, zeroing, keying, giving, gathering, sending}

-- ---- slots of a list

abbrev pub HasSlot : List Slot → Slot → Type 0
HasSlot [] x = ⊥
HasSlot (y ∷ ys) x = (y ≡ x) ⊎ HasSlot ys x

abbrev pub registers_of : List Slot → List ℕ
registers_of slots = map (λ (x : Slot). x.register) slots

abbrev pub fields_of : List Slot → List ℕ
fields_of slots = map (λ (x : Slot). x.field) slots

absent-apart : (f : Slot → ℕ) (n : ℕ) (slots : List Slot) (x : Slot) → IsAbsent n (map f slots) → HasSlot slots x → n ≢ f x
absent-apart f n [] x a h = absurd h
absent-apart f n (y ∷ ys) x a h = elim h as (λ _. n ≢ f x) [
  | inl e ↦ subst (λ (z : Slot). n ≢ f z) e a.0
  | inr r ↦ absent-apart f n ys x a.1 r
]

-- ---- sums from 0

-- the start value of a sender's accumulator
abbrev pub starting : Accumulation → Value → Value
starting Sum v = Int (pos 0)
starting Least v = v
starting Greatest v = v

-- two stores that differ only in value registers
pub record ValuesOnly (s t : Store) : Type 0 where
  pub whole : IsWhole 0 t
  pub fields : t.fields ≡ s.fields
  pub input : t.input ≡ s.input
  pub records : t.records ≡ s.records
  pub loops : t.loops ≡ s.loops
  pub emitted : t.emitted ≡ s.emitted

ValuesOnly-itself : (s : Store) → IsWhole 0 s → ValuesOnly s s
ValuesOnly-itself s w = record { whole = w; fields = refl; input = refl; records = refl; loops = refl; emitted = refl }

ValuesOnly-put : (s : Store) (to : ℕ) (v : Value) → IsWhole 0 s → ValuesOnly s (put_value s to v)
ValuesOnly-put s to v w = record { whole = IsWhole-put_value to v w; fields = refl; input = refl; records = refl; loops = refl; emitted = refl }

ValuesOnly-chained : {s t u : Store} → ValuesOnly s t → ValuesOnly t u → ValuesOnly s u
ValuesOnly-chained h k = record {
  whole = k.whole;
  fields = k.fields ∙ h.fields;
  input = k.input ∙ h.input;
  records = k.records ∙ h.records;
  loops = k.loops ∙ h.loops;
  emitted = k.emitted ∙ h.emitted;
}

pub record Zeroed (slots : List Slot) (s t : Store) : Type 0 where
  pub only : ValuesOnly s t
  pub at : (x : Slot) → HasSlot slots x → value_in t x.register ≡ starting x.by (value_in s x.register)
  pub others : (k : ℕ) → IsAbsent k (registers_of slots) → value_in t k ≡ value_in s k

abbrev pub AreInRange : List Slot → Type 0
AreInRange [] = Unit {0}
AreInRange (x ∷ xs) = (x.register < value_registers) × AreInRange xs

-- one slot's statement, followed by those of the others
one_zeroed : (by : Accumulation) (d : ℕ) (next : Code) (s : Store) → d < value_registers → IsWhole 0 s
    → (t : Store) × (exec (from_zero by d next) s ≡ exec next t) × ValuesOnly s t × (value_in t d ≡ starting by (value_in s d)) × ((k : ℕ) → k ≢ d → value_in t k ≡ value_in s k)
one_zeroed Sum d next s lt w = let v = Int (pos 0) in (put_value s d v, refl, ValuesOnly-put s d v w, value_in-put 0 s d v w lt, λ k apart. value_in-put_other s d v k apart)
one_zeroed Least d next s lt w = (s, refl, ValuesOnly-itself s w, refl, λ k apart. refl)
one_zeroed Greatest d next s lt w = (s, refl, ValuesOnly-itself s w, refl, λ k apart. refl)

-- the statements for a list of slots lead to a store from which the following code runs
pub zeroed : (slots : List Slot) (next : Code) (s : Store) → AreInRange slots → AreDifferent (registers_of slots) → IsWhole 0 s → (t : Store) × (exec (zeroing slots next) s ≡ exec next t) × Zeroed slots s t
zeroed [] next s r d w = (s, refl, record { only = ValuesOnly-itself s w; at = λ x h. absurd h; others = λ k a. refl })
zeroed (y ∷ ys) next s r d w =
    let p = one_zeroed y.by y.register (zeroing ys next) s r.0 w in
    let q = zeroed ys next p.0 r.1 d.1 p.2.whole in (
      q.0,
      p.1 ∙ q.1,
      record {
        only = ValuesOnly-chained p.2 q.2.only;
        at = λ x h. elim h as (λ _. value_in q.0 x.register ≡ starting x.by (value_in s x.register)) [
          | inl e ↦ subst (λ (z : Slot). value_in q.0 z.register ≡ starting z.by (value_in s z.register)) e (q.2.others y.register d.0 ∙ p.3)
          | inr h2 ↦ q.2.at x h2 ∙ ap (starting x.by) (p.4 x.register (λ e. absent-apart (λ (z : Slot). z.register) y.register ys x d.0 h2 (sym e)))
        ];
        others = λ k a. q.2.others k a.1 ∙ p.4 k a.0;
      },
    )

-- ---- what a merger's turn absorbs

pub record Gathered (t : ℕ) (slots : List Slot) (s u : Store) : Type 0 where
  pub only : ValuesOnly s u
  pub at : (x : Slot) → HasSlot slots x → value_in u x.register ≡ applied2 (op_of x.by) (value_in s x.register) (at_field (loop_record s 1) x.field)
  pub others : (k : ℕ) → k ≢ t → IsAbsent k (registers_of slots) → value_in u k ≡ value_in s k

module _ (t : ℕ) (y : Slot) (ys : List Slot) (s : Store) (lt : t < value_registers) (below : y.register < value_registers) (a : IsAbsent t (registers_of (y ∷ ys))) (d : IsAbsent y.register (registers_of ys)) (w : IsWhole 0 s) where
  abbrev got : Value
  got = at_field (loop_record s 1) y.field

  abbrev s1 : Store
  s1 = put_value s t got

  w1 : IsWhole 0 s1
  w1 = IsWhole-put_value t got w

  abbrev sum : Value
  sum = applied2 (op_of y.by) (value_in s1 y.register) (value_in s1 t)

  abbrev s2 : Store
  s2 = put_value s1 y.register sum

  w2 : IsWhole 0 s2
  w2 = IsWhole-put_value y.register sum w1

  own_apart : y.register ≢ t
  own_apart e = a.0 (sym e)

  own : value_in s2 y.register ≡ applied2 (op_of y.by) (value_in s y.register) got
  own = value_in-put 0 s1 y.register sum w1 below ∙ (λ i. applied2 (op_of y.by) (value_in-put_other s t got y.register own_apart i) (value_in-put 0 s t got w lt i))

  kept : (k : ℕ) → k ≢ t → k ≢ y.register → value_in s2 k ≡ value_in s k
  kept k nt ny = value_in-put_other s1 y.register sum k ny ∙ value_in-put_other s t got k nt

  gathered_on : (u : Store) → Gathered t ys s2 u → Gathered t (y ∷ ys) s u
  gathered_on u q = record {
    only = ValuesOnly-chained (ValuesOnly-chained (ValuesOnly-put s t got w) (ValuesOnly-put s1 y.register sum w1)) q.only;
    at = λ x h. elim h as (λ _. value_in u x.register ≡ applied2 (op_of x.by) (value_in s x.register) (at_field (loop_record s 1) x.field)) [
      | inl e ↦ subst (λ (z : Slot). value_in u z.register ≡ applied2 (op_of z.by) (value_in s z.register) (at_field (loop_record s 1) z.field)) e (q.others y.register own_apart d ∙ own)
      | inr h2 ↦
          let ne = λ (e : x.register ≡ y.register). absent-apart (λ (z : Slot). z.register) y.register ys x d h2 (sym e) in
          let nt = λ (e : x.register ≡ t). absent-apart (λ (z : Slot). z.register) t ys x a.1 h2 (sym e) in
          q.at x h2 ∙ ap (λ (v : Value). applied2 (op_of x.by) v (at_field (loop_record s 1) x.field)) (kept x.register nt ne)
    ];
    others = λ k ne b. q.others k ne b.1 ∙ kept k ne b.0;
  }

pub gathered : (t : ℕ) (slots : List Slot) (s : Store) → t < value_registers → AreInRange slots → IsAbsent t (registers_of slots) → AreDifferent (registers_of slots) → IsWhole 0 s
    → Gathered t slots s (exec (gathering t slots) s)
gathered t [] s lt r a d w = record { only = ValuesOnly-itself s w; at = λ x h. absurd h; others = λ k ne b. refl }
gathered t (y ∷ ys) s lt r a d w =
    let next = s2 t y ys s lt r.0 a d.0 w in
    gathered_on t y ys s lt r.0 a d.0 w (exec (gathering t ys) next) (gathered t ys next lt r.1 a.1 d.1 (w2 t y ys s lt r.0 a d.0 w))

-- ---- the record that a sender emits

-- a store whose first record register holds a record of this width
pub record HoldsRecord (F : ℕ) (s : Store) : Type 0 where
  pub whole : IsWhole 0 s
  pub width : length (record_in s 0) ≡ F

set_same : (F : ℕ) (s : Store) (k : ℕ) (v : Value) → k < F → HoldsRecord F s → at_field (record_in (put_record s 0 (slice_set (record_in s 0) k v)) 0) k ≡ v
set_same F s k v lt h = ap (λ (r : List Value). at_field r k) (held s (slice_set (record_in s 0) k v) h.whole) ∙ get_or-set_same (record_in s 0) k v Null (omega (arith, h.width, lt)) where
  held : (s : Store) (r : List Value) → IsWhole 0 s → record_in (put_record s 0 r) 0 ≡ r
  held s r w = get_or-set_same s.records 0 r [] (omega (arith, w.records))

set_other : (F : ℕ) (s : Store) (k j : ℕ) (v : Value) → j ≢ k → HoldsRecord F s → at_field (record_in (put_record s 0 (slice_set (record_in s 0) k v)) 0) j ≡ at_field (record_in s 0) j
set_other F s k j v apart h = ap (λ (r : List Value). at_field r j) (held s (slice_set (record_in s 0) k v) h.whole) ∙ get_or-set_other (record_in s 0) k j v Null apart where
  held : (s : Store) (r : List Value) → IsWhole 0 s → record_in (put_record s 0 r) 0 ≡ r
  held s r w = get_or-set_same s.records 0 r [] (omega (arith, w.records))

set_holds : (F : ℕ) (s : Store) (k : ℕ) (v : Value) → HoldsRecord F s → HoldsRecord F (put_record s 0 (slice_set (record_in s 0) k v))
set_holds F s k v h = record {
  whole = IsWhole-put_record 0 (slice_set (record_in s 0) k v) h.whole;
  width = ap length (get_or-set_same s.records 0 (slice_set (record_in s 0) k v) [] (omega (arith, h.whole.records))) ∙ length-set (record_in s 0) k v ∙ h.width;
}

-- the record after the accumulators were copied to their fields
pub record Gave (F : ℕ) (slots : List Slot) (s t : Store) : Type 0 where
  pub holds : HoldsRecord F t
  pub emitted : t.emitted ≡ s.emitted
  pub at : (x : Slot) → HasSlot slots x → at_field (record_in t 0) x.field ≡ value_in s x.register
  pub others : (k : ℕ) → IsAbsent k (fields_of slots) → at_field (record_in t 0) k ≡ at_field (record_in s 0) k

abbrev pub AreFieldsIn : ℕ → List Slot → Type 0
AreFieldsIn F [] = Unit {0}
AreFieldsIn F (x ∷ xs) = (x.field < F) × AreFieldsIn F xs

pub gave : (F : ℕ) (slots : List Slot) (next : Code) (s : Store) → AreFieldsIn F slots → AreDifferent (fields_of slots) → HoldsRecord F s → (t : Store) × (exec (giving slots next) s ≡ exec next t) × Gave F slots s t
gave F [] next s r d h = (s, refl, record { holds = h; emitted = refl; at = λ x g. absurd g; others = λ k a. refl })
gave F (y ∷ ys) next s r d h =
    let v = value_in s y.register in
    let s1 = put_record s 0 (slice_set (record_in s 0) y.field v) in
    let q = gave F ys next s1 r.1 d.1 (set_holds F s y.field v h) in (
      q.0,
      q.1,
      record {
        holds = q.2.holds;
        emitted = q.2.emitted;
        at = λ x g. elim g as (λ _. at_field (record_in q.0 0) x.field ≡ value_in s x.register) [
          | inl e ↦ subst (λ (z : Slot). at_field (record_in q.0 0) z.field ≡ value_in s z.register) e (q.2.others y.field d.0 ∙ set_same F s y.field v r.0 h)
          | inr g2 ↦ q.2.at x g2
        ];
        others = λ k a. q.2.others k a.1 ∙ set_other F s y.field k v a.0 h;
      },
    )

-- ---- the key fields

-- the values of a call's key, from a position on, are those of these fields of a record
abbrev pub HasKeysAt : (ℕ → Value) → List Value → ℕ → List ℕ → Type 0
HasKeysAt v key at [] = Unit {0}
HasKeysAt v key at (k ∷ ks) = (get_or key at Null ≡ v k) × HasKeysAt v key (at + 1) ks

at_seam : (v : Value) (xs ys : List Value) → get_or (xs ++ (v ∷ ys)) (length xs) Null ≡ v
at_seam v [] ys = refl
at_seam v (x ∷ xs) ys = at_seam v xs ys

one_longer : (v : Value) (xs : List Value) → length (xs ++ v ∷ []) ≡ length xs + 1
one_longer v xs = length-append xs (v ∷ [])

joined_up : (v : Value) (xs ys : List Value) → ((xs ++ v ∷ []) ++ ys) ≡ (xs ++ (v ∷ ys))
joined_up v [] ys = refl
joined_up v (x ∷ xs) ys = ap (λ (l : List Value). x ∷ l) (joined_up v xs ys)

keys_from : (v : ℕ → Value) (front : List Value) (ks : List ℕ) → HasKeysAt v (front ++ map v ks) (length front) ks
keys_from v front [] = tt
keys_from v front (k ∷ ks) = (
  at_seam (v k) front (map v ks),
  subst (λ (n : ℕ). HasKeysAt v (front ++ (v k ∷ map v ks)) n ks) (one_longer (v k) front)
      (subst (λ (l : List Value). HasKeysAt v l (length (front ++ v k ∷ [])) ks) (joined_up (v k) front (map v ks)) (keys_from v (front ++ v k ∷ []) ks)),
)

pub keys_at : (keys : List ℕ) (row : List Value) → HasKeysAt (at_field row) (key_of keys row) 0 keys
keys_at keys row = keys_from (at_field row) [] keys

pub record Keyed (F t : ℕ) (v : ℕ → Value) (keys : List ℕ) (s u : Store) : Type 0 where
  pub holds : HoldsRecord F u
  pub emitted : u.emitted ≡ s.emitted
  pub at : (k : ℕ) → (is_among keys k ≡ true) ⊎ (at_field (record_in s 0) k ≡ v k) → at_field (record_in u 0) k ≡ v k
  pub others : (k : ℕ) → k ≢ t → value_in u k ≡ value_in s k

abbrev pub AreBelow : ℕ → List ℕ → Type 0
AreBelow F [] = Unit {0}
AreBelow F (k ∷ ks) = (k < F) × AreBelow F ks

pub keyed : (F t : ℕ) (v : ℕ → Value) (key : List Value) (at : ℕ) (keys : List ℕ) (next : Code) (s : Store) → t < value_registers → AreBelow F keys → key_values s.input ≡ key → HasKeysAt v key at keys → HoldsRecord F s
    → (u : Store) × (exec (keying t at keys next) s ≡ exec next u) × Keyed F t v keys s u
keyed F t v key at [] next s lt b e ks h = (s, refl, record { holds = h; emitted = refl; at = λ k g. elim g as (λ _. at_field (record_in s 0) k ≡ v k) [ inl x ↦ cc | inr x ↦ x ]; others = λ k ne. refl })
keyed F t v key at (k0 ∷ rest) next s lt b e ks h =
    let got = get_or (key_values s.input) at Null in
    let s1 = put_value s t got in
    let h1 : HoldsRecord F s1 = record { whole = IsWhole-put_value t got h.whole; width = h.width } in
    let now = value_in s1 t in
    let s2 = put_record s1 0 (slice_set (record_in s1 0) k0 now) in
    let now_is : now ≡ v k0 = value_in-put 0 s t got h.whole lt ∙ ap (λ (l : List Value). get_or l at Null) e ∙ ks.0 in
    let q = keyed F t v key (at + 1) rest next s2 lt b.1 e ks.1 (set_holds F s1 k0 now h1) in (
      q.0,
      q.1,
      record {
        holds = q.2.holds;
        emitted = q.2.emitted;
        at = λ k g. q.2.at k (elim (cases_Bool (k0 == k)) as (λ _. (is_among rest k ≡ true) ⊎ (at_field (record_in s2 0) k ≡ v k)) [
          | inl same ↦ inr (subst (λ (j : ℕ). at_field (record_in s2 0) j ≡ v j) (eqb-true k0 k same) (set_same F s1 k0 now b.0 h1 ∙ now_is))
          | inr apart ↦ elim g as (λ _. (is_among rest k ≡ true) ⊎ (at_field (record_in s2 0) k ≡ v k)) [
            | inl among ↦ elim (or_cases (k0 == k) (is_among rest k) among) as (λ _. (is_among rest k ≡ true) ⊎ (at_field (record_in s2 0) k ≡ v k)) [
              | inl z ↦ absurd (eqb-false k0 k apart (eqb-true k0 k z))
              | inr z ↦ inl z
            ]
            | inr had ↦ inr (set_other F s1 k0 k now (λ (z : k ≡ k0). eqb-false k0 k apart (sym z)) h1 ∙ had)
          ]
        ]);
        others = λ k ne. q.2.others k ne ∙ value_in-put_other s t got k ne;
      },
    )

-- ---- all code after a sender's loop

pub record Sent (F : ℕ) (v : ℕ → Value) (keys : List ℕ) (slots : List Slot) (s : Store) (row : List Value) : Type 0 where
  pub width : length row ≡ F
  pub keys_are : (k : ℕ) → is_among keys k ≡ true → at_field row k ≡ v k
  pub at : (x : Slot) → HasSlot slots x → at_field row x.field ≡ value_in s x.register

new_holds : (F : ℕ) (s : Store) → s.fields ≡ F → IsWhole 0 s → HoldsRecord F (put_record s 0 (empty_record s.fields))
new_holds F s e w = record {
  whole = IsWhole-put_record 0 (empty_record s.fields) w;
  width = ap length (get_or-set_same s.records 0 (empty_record s.fields) [] (omega (arith, w.records))) ∙ length-replicate s.fields Null ∙ e;
}

pub sent : (F t : ℕ) (v : ℕ → Value) (key : List Value) (keys : List ℕ) (slots : List Slot) (s : Store) → t < value_registers → AreBelow F keys → HasKeysAt v key 0 keys → AreFieldsIn F slots → AreDifferent (fields_of slots)
    → IsAbsent t (registers_of slots) → ((k : ℕ) → is_among keys k ≡ true → IsAbsent k (fields_of slots)) → key_values s.input ≡ key → s.fields ≡ F → IsWhole 0 s
    → (row : List Value) × ((exec (sending t keys slots) s).emitted ≡ s.emitted ++ row ∷ []) × Sent F v keys slots s row
sent F t v key keys slots s lt below has inside apart free outside e width w =
    let s1 = put_record s 0 (empty_record s.fields) in
    let p = keyed F t v key 0 keys (giving slots (plain (emit_record 0) stop)) s1 lt below e has (new_holds F s width w) in
    let q = gave F slots (plain (emit_record 0) stop) p.0 inside apart p.2.holds in (
      record_in q.0 0,
      ap (λ (u : Store). u.emitted) (p.1 ∙ q.1) ∙ (λ i. (q.2.emitted ∙ p.2.emitted) i ++ record_in q.0 0 ∷ []),
      record {
        width = q.2.holds.width;
        keys_are = λ k h. q.2.others k (outside k h) ∙ p.2.at k (inl h);
        at = λ x h. q.2.at x h ∙ p.2.others x.register (λ z. absent-apart (λ (y : Slot). y.register) t slots x free h (sym z));
      },
    )
