-- Facts about the slots of a loop.
use Rattle.std.proofs.Common.{◌≡◌, ◌≢◌, ◌≤◌, ◌<◌, ◌+◌, ◌==◌, ℕ, zero, suc, Bool, true, false, not, ◌&&◌, ◌||◌, cond, inl, inr, if◌then◌else◌, List, [], ◌∷◌, Option, Some, None, length, refl, sym, ap, subst, arith}
use Rattle.std.specs.Prelude.{filter}
use Rattle.std.specs.List.{AllByRecursion, range_with_len}
use Rattle.std.proofs.lemmas.Bool.{cases_Bool, or_cases, or_left, or_right, and_parts, both_ways, not-true, eq-eqb, eqb-true}
use Rattle.pact_record.proofs.Lists.{AllByRecursion-weaker}
use Rattle.plan_trees.specs.Distinct.{IsAbsent, AreDifferent}
use Rattle.tac_syntax.specs.declared.functions.Kind.{Kind}
use Rattle.tac_syntax.specs.Limits.{value_registers}
use Rattle.tac_syntax.specs.Code.{Simple, load_int, load_text, load_null, move_value, get_field, get_at, get_key, apply_one, apply_two, new_record, copy_record, set_field, set_at, emit_record, Code, stop, plain, branch, again, each}
use Rattle.tac_syntax.specs.WellFormed.{IsWellFormed, IsWellFormedSimple}
use Rattle.order_free.specs.declared.accumulators.Accumulation.{Accumulation}
use Rattle.order_free.specs.Registers.{Register, value_at, is_value, has_operand, assigns, occurs, is_assigned}
use Rattle.order_free.specs.Accumulators.{is_accumulator}
use Rattle.combine_rule.specs.Pieces.{occurs_in}
use Rattle.combine_rule.specs.declared.slots.Slot.{Slot}
use Rattle.combine_rule.specs.Slots.{accumulation_of, is_taken_up, accumulators_of, is_among, spare_fields, slots_with, slots_of, first_unused, spare_register}
use Rattle.combine_rule.proofs.SlotRuns.{HasSlot, registers_of, fields_of, AreInRange, AreFieldsIn}
use Rattle.combine_rule.proofs.PartsTogether.{AreSlots}

-- ---- numbers of a range that pass a test

abbrev pub Picked : (ℕ → Bool) → ℕ → ℕ → ℕ → Type 0
Picked p a n m = (a ≤ m) × (m < a + n) × (p m ≡ true)

picked-cond : (P : ℕ → Type 0) (b : Bool) (x : ℕ) (xs : List ℕ) → (b ≡ true → P x) → AllByRecursion P xs → AllByRecursion P (cond b (x ∷ xs) xs)
picked-cond P true x xs f h = (f refl, h)
picked-cond P false x xs f h = h

pub all_picked : (p : ℕ → Bool) (a n : ℕ) → AllByRecursion (Picked p a n) (filter p (range_with_len a n))
all_picked p a zero = tt
all_picked p a (suc n) =
    picked-cond (Picked p a (suc n)) (p a) a (filter p (range_with_len (a + 1) n)) (λ e. (omega arith, omega arith, e))
    (AllByRecursion-weaker (Picked p (a + 1) n) (Picked p a (suc n)) (filter p (range_with_len (a + 1) n)) (λ m h. (omega (arith, h.0), omega (arith, h.1), h.2)) (all_picked p (a + 1) n))

absent_above : (m : ℕ) (xs : List ℕ) → AllByRecursion (λ k. m < k) xs → IsAbsent m xs
absent_above m [] h = tt
absent_above m (x ∷ xs) h = ((λ e. omega (arith, h.0, e)), absent_above m xs h.1)

different-cond : (b : Bool) (x : ℕ) (xs : List ℕ) → IsAbsent x xs → AreDifferent xs → AreDifferent (cond b (x ∷ xs) xs)
different-cond true x xs a d = (a, d)
different-cond false x xs a d = d

pub picked_different : (p : ℕ → Bool) (a n : ℕ) → AreDifferent (filter p (range_with_len a n))
picked_different p a zero = tt
picked_different p a (suc n) =
    let rest = filter p (range_with_len (a + 1) n) in
    different-cond (p a) a rest (absent_above a rest (AllByRecursion-weaker (Picked p (a + 1) n) (λ k. a < k) rest (λ m h. omega (arith, h.0)) (all_picked p (a + 1) n))) (picked_different p (a + 1) n)

among-cond : (b : Bool) (x k : ℕ) (xs : List ℕ) → is_among xs k ≡ true → is_among (cond b (x ∷ xs) xs) k ≡ true
among-cond true x k xs h = or_right (x == k) (is_among xs k) h
among-cond false x k xs h = h

among-first : (b : Bool) (x : ℕ) (xs : List ℕ) → b ≡ true → is_among (cond b (x ∷ xs) xs) x ≡ true
among-first true x xs h = or_left (x == x) (is_among xs x) (eq-eqb x x refl)
among-first false x xs h = cc

pub among_picked : (p : ℕ → Bool) (a n m : ℕ) → a ≤ m → m < a + n → p m ≡ true → is_among (filter p (range_with_len a n)) m ≡ true
among_picked p a zero m lo hi h = absurd (omega (arith, lo, hi))
among_picked p a (suc n) m lo hi h =
    let rest = filter p (range_with_len (a + 1) n) in
    elim (cases_Bool (a == m)) as (λ _. is_among (cond (p a) (a ∷ rest) rest) m ≡ true) [
      | inl e ↦ subst (λ (k : ℕ). is_among (cond (p a) (a ∷ rest) rest) k ≡ true) (eqb-true a m e) (among-first (p a) a rest (subst (λ (k : ℕ). p k ≡ true) (sym (eqb-true a m e)) h))
      | inr e ↦ among-cond (p a) a m rest (among_picked p (a + 1) n m (above a m lo (eqb_apart a m e)) (omega (arith, hi)) h)
    ] where
      eqb_apart : (x y : ℕ) → (x == y) ≡ false → x ≢ y
      eqb_apart x y e z = both_ways (x == y) e (eq-eqb x y z)

      above : (x y : ℕ) → x ≤ y → x ≢ y → x + 1 ≤ y
      above x y le ne = omega (arith, le, ne)

-- ---- accumulators and fields side by side

module _ (by : ℕ → Accumulation) where
  pub registers_are : (ds ks : List ℕ) → length ds ≤ length ks → registers_of (slots_with by ds ks) ≡ ds
  registers_are [] ks le = refl
  registers_are (d ∷ ds) [] le = absurd (omega (arith, le))
  registers_are (d ∷ ds) (k ∷ ks) le = ap (λ (l : List ℕ). d ∷ l) (registers_are ds ks (omega (arith, le)))

  pub fields_all : (P : ℕ → Type 0) (ds ks : List ℕ) → AllByRecursion P ks → AllByRecursion P (fields_of (slots_with by ds ks))
  fields_all P [] ks h = tt
  fields_all P (d ∷ ds) [] h = tt
  fields_all P (d ∷ ds) (k ∷ ks) h = (h.0, fields_all P ds ks h.1)

  fields_absent : (m : ℕ) (ds ks : List ℕ) → IsAbsent m ks → IsAbsent m (fields_of (slots_with by ds ks))
  fields_absent m [] ks h = tt
  fields_absent m (d ∷ ds) [] h = tt
  fields_absent m (d ∷ ds) (k ∷ ks) h = (h.0, fields_absent m ds ks h.1)

  fields_different : (ds ks : List ℕ) → AreDifferent ks → AreDifferent (fields_of (slots_with by ds ks))
  fields_different [] ks h = tt
  fields_different (d ∷ ds) [] h = tt
  fields_different (d ∷ ds) (k ∷ ks) h = (fields_absent k ds ks h.0, fields_different ds ks h.1)

  of_registers : (P : ℕ → Type 0) (ds ks : List ℕ) → AllByRecursion P ds → (x : Slot) → HasSlot (slots_with by ds ks) x → P x.register × (x.by ≡ by x.register)
  of_registers P [] ks h x i = absurd i
  of_registers P (d ∷ ds) [] h x i = absurd i
  of_registers P (d ∷ ds) (k ∷ ks) h x i = elim i as (λ _. P x.register × (x.by ≡ by x.register)) [
    | inl e ↦ subst (λ (y : Slot). P y.register × (y.by ≡ by y.register)) e (h.0, refl)
    | inr r ↦ of_registers P ds ks h.1 x r
  ]

  has_register : (ds ks : List ℕ) (d : ℕ) → length ds ≤ length ks → is_among ds d ≡ true → (x : Slot) × HasSlot (slots_with by ds ks) x × (x.register ≡ d)
  has_register [] ks d le h = cc
  has_register (e ∷ ds) [] d le h = absurd (omega (arith, le))
  has_register (e ∷ ds) (k ∷ ks) d le h = elim (or_cases (e == d) (is_among ds d) h) as (λ _. (x : Slot) × HasSlot (slots_with by (e ∷ ds) (k ∷ ks)) x × (x.register ≡ d)) [
    | inl s ↦ (record { register = e; by = by e; field = k }, inl refl, eqb-true e d s)
    | inr r ↦ let q = has_register ds ks d (omega (arith, le)) r in (q.0, inr q.1, q.2)
  ]

in_range-from : (slots : List Slot) → ((x : Slot) → HasSlot slots x → x.register < value_registers) → AreInRange slots
in_range-from [] f = tt
in_range-from (x ∷ xs) f = (f x (inl refl), in_range-from xs (λ y h. f y (inr h)))

fields_in-from : (F : ℕ) (slots : List Slot) → AllByRecursion (λ k. k < F) (fields_of slots) → AreFieldsIn F slots
fields_in-from F [] h = tt
fields_in-from F (x ∷ xs) h = (h.0, fields_in-from F xs h.1)

absent-by : (P : ℕ → Type 0) (k : ℕ) (xs : List ℕ) → AllByRecursion P xs → (P k → ⊥) → IsAbsent k xs
absent-by P k [] h f = tt
absent-by P k (x ∷ xs) h f = ((λ e. f (subst P (sym e) h.0)), absent-by P k xs h.1 f)

-- ---- assigned registers

pub assigned-occurs : (c : Code) (r : Register) → is_assigned c r ≡ true → occurs_in c r ≡ true
assigned-occurs stop r h = cc
assigned-occurs (plain a next) r h = elim (or_cases (assigns a r) (is_assigned next r) h) as (λ _. (occurs a r || occurs_in next r) ≡ true) [
  | inl p ↦ or_left (occurs a r) (occurs_in next r) (or_right (has_operand a r) (assigns a r) p)
  | inr p ↦ or_right (occurs a r) (occurs_in next r) (assigned-occurs next r p)
]
assigned-occurs (branch on body other next) r h =
    let rest = occurs_in body r || (occurs_in other r || occurs_in next r) in
    or_right (is_value on r) rest (elim (or_cases (is_assigned body r) (is_assigned other r || is_assigned next r) h) as (λ _. rest ≡ true) [
      | inl p ↦ or_left (occurs_in body r) (occurs_in other r || occurs_in next r) (assigned-occurs body r p)
      | inr p ↦ or_right (occurs_in body r) (occurs_in other r || occurs_in next r) (elim (or_cases (is_assigned other r) (is_assigned next r) p) as (λ _. (occurs_in other r || occurs_in next r) ≡ true) [
        | inl q ↦ or_left (occurs_in other r) (occurs_in next r) (assigned-occurs other r q)
        | inr q ↦ or_right (occurs_in other r) (occurs_in next r) (assigned-occurs next r q)
      ])
    ])
assigned-occurs (again count body next) r h = elim (or_cases (is_assigned body r) (is_assigned next r) h) as (λ _. (occurs_in body r || occurs_in next r) ≡ true) [
  | inl p ↦ or_left (occurs_in body r) (occurs_in next r) (assigned-occurs body r p)
  | inr p ↦ or_right (occurs_in body r) (occurs_in next r) (assigned-occurs next r p)
]
assigned-occurs (each name list body next) r h = elim (or_cases (is_assigned body r) (is_assigned next r) h) as (λ _. (occurs_in body r || occurs_in next r) ≡ true) [
  | inl p ↦ or_left (occurs_in body r) (occurs_in next r) (assigned-occurs body r p)
  | inr p ↦ or_right (occurs_in body r) (occurs_in next r) (assigned-occurs next r p)
]

target_below : (to d : ℕ) → to < value_registers → (d == to) ≡ true → d < value_registers
target_below to d lt e = omega (arith, lt, eqb-true d to e)

module _ (kind : Kind) (F : ℕ) where
  simple-below : (n : ℕ) (a : Simple) (d : ℕ) → IsWellFormedSimple kind F n a → assigns a (value_at d) ≡ true → d < value_registers
  simple-below n (load_int to v) d w h = target_below to d w h
  simple-below n (load_text to bytes) d w h = target_below to d w h
  simple-below n (load_null to) d w h = target_below to d w h
  simple-below n (move_value to from) d w h = target_below to d w.0 h
  simple-below n (get_field to from field) d w h = target_below to d w.0 h
  simple-below n (get_at to from at) d w h = target_below to d w.0 h
  simple-below n (get_key to at) d w h = target_below to d w.0 h
  simple-below n (apply_one to op b) d w h = target_below to d w.0 h
  simple-below n (apply_two to op b c) d w h = target_below to d w.0 h
  simple-below n (new_record to) d w h = cc
  simple-below n (copy_record to from) d w h = cc
  simple-below n (set_field to field v) d w h = cc
  simple-below n (set_at to at v) d w h = cc
  simple-below n (emit_record from) d w h = cc

  pub assigned-below : (c : Code) (n d : ℕ) → IsWellFormed kind F n c → is_assigned c (value_at d) ≡ true → d < value_registers
  assigned-below stop n d w h = cc
  assigned-below (plain a next) n d w h = elim (or_cases (assigns a (value_at d)) (is_assigned next (value_at d)) h) as (λ _. d < value_registers) [
    | inl p ↦ simple-below n a d w.0 p
    | inr p ↦ assigned-below next n d w.1 p
  ]
  assigned-below (branch on body other next) n d w h = elim (or_cases (is_assigned body (value_at d)) (is_assigned other (value_at d) || is_assigned next (value_at d)) h) as (λ _. d < value_registers) [
    | inl p ↦ assigned-below body n d w.0 p
    | inr q ↦ elim (or_cases (is_assigned other (value_at d)) (is_assigned next (value_at d)) q) as (λ _. d < value_registers) [
      | inl p ↦ assigned-below other n d w.1 p
      | inr p ↦ assigned-below next n d w.2 p
    ]
  ]
  assigned-below (again count body next) n d w h = elim (or_cases (is_assigned body (value_at d)) (is_assigned next (value_at d)) h) as (λ _. d < value_registers) [
    | inl p ↦ assigned-below body n d w.1 p
    | inr p ↦ assigned-below next n d w.2 p
  ]
  assigned-below (each name list body next) n d w h = elim (or_cases (is_assigned body (value_at d)) (is_assigned next (value_at d)) h) as (λ _. d < value_registers) [
    | inl p ↦ assigned-below body (n + 1) d w.2 p
    | inr p ↦ assigned-below next n d w.3 p
  ]

-- ---- a register that doesn't occur

unused_first : (c : Code) (b : Bool) (k t : ℕ) (ks : List ℕ) → occurs_in c (value_at k) ≡ b → ((k2 : ℕ) → first_unused c ks ≡ Some k2 → (k2 < value_registers) × (occurs_in c (value_at k2) ≡ false)) → k < value_registers
    → (if b then first_unused c ks else Some k) ≡ Some t → (t < value_registers) × (occurs_in c (value_at t) ≡ false)
unused_first c true k t ks e f lt h = f t h
unused_first c false k t ks e f lt h = subst (λ (j : ℕ). (j < value_registers) × (occurs_in c (value_at j) ≡ false)) (some_same h) (lt, e) where
  value_of : Option ℕ → ℕ
  value_of None = 0
  value_of (Some x) = x

  some_same : {x y : ℕ} → Some x ≡ Some y → x ≡ y
  some_same q = ap value_of q

unused_below : (c : Code) (a n t : ℕ) → a + n ≤ value_registers → first_unused c (range_with_len a n) ≡ Some t → (t < value_registers) × (occurs_in c (value_at t) ≡ false)
unused_below c a zero t le h = cc
unused_below c a (suc n) t le h =
    unused_first c (occurs_in c (value_at a)) a t (range_with_len (a + 1) n) refl (λ k2 q. unused_below c (a + 1) n k2 (omega (arith, le)) q) (omega (arith, le)) h

pub spare_is : (c : Code) (t : ℕ) → spare_register c ≡ Some t → (t < value_registers) × (occurs_in c (value_at t) ≡ false)
spare_is c t h = unused_below c 0 value_registers t (omega arith) h

-- ---- all facts together

module _ (kind : Kind) (F t : ℕ) (keys : List ℕ) (set : ℕ → Bool) (loop : Code) where
  abbrev by : ℕ → Accumulation
  by = accumulation_of loop

  abbrev ds : List ℕ
  ds = accumulators_of loop

  abbrev ks : List ℕ
  ks = spare_fields F keys set

  abbrev slots : List Slot
  slots = slots_of loop F keys set

  abbrev RegisterOk : ℕ → Type 0
  RegisterOk = Picked (is_taken_up loop) 0 value_registers

  abbrev FieldOk : ℕ → Type 0
  FieldOk = Picked (λ k. set k && not (is_among keys k)) 0 F

  picked : AllByRecursion RegisterOk ds
  picked = all_picked (is_taken_up loop) 0 value_registers

  fields : AllByRecursion FieldOk ks
  fields = all_picked (λ k. set k && not (is_among keys k)) 0 F

  pub are_slots : (n : ℕ) → IsWellFormed kind F n loop → occurs_in loop (value_at t) ≡ false → length ds ≤ length ks → AreSlots F t keys loop slots
  are_slots n w unused room =
      let same : registers_of slots ≡ ds = registers_are by ds ks room in
      record {
        in_range = in_range-from slots (λ x h. (of_registers by RegisterOk ds ks picked x h).0.1);
        registers = subst AreDifferent (sym same) (picked_different (is_taken_up loop) 0 value_registers);
        spare = subst (IsAbsent t) (sym same) (absent-by RegisterOk t ds picked
            (λ h. both_ways (occurs_in loop (value_at t)) unused (assigned-occurs loop (value_at t) (and_parts (is_assigned loop (value_at t)) (is_accumulator loop (value_at t)) h.2).0)));
        fields_in = fields_in-from F slots (fields_all by (λ k. k < F) ds ks (AllByRecursion-weaker FieldOk (λ k. k < F) ks (λ m h. omega (arith, h.1)) fields));
        fields = fields_different by ds ks (picked_different (λ k. set k && not (is_among keys k)) 0 F);
        outside = λ k h. absent-by FieldOk k (fields_of slots) (fields_all by FieldOk ds ks fields)
            (λ q. both_ways (is_among keys k) (not-true (is_among keys k) (and_parts (set k) (not (is_among keys k)) q.2).1) h);
        taken = λ x h. let q = of_registers by RegisterOk ds ks picked x h in (q.0.2, q.1);
        all = λ d h. has_register by ds ks d room
            (among_picked (is_taken_up loop) 0 value_registers d (omega arith) (assigned-below kind F loop n d w (and_parts (is_assigned loop (value_at d)) (is_accumulator loop (value_at d)) h).0) h);
      }
