-- A valid function is combinable exactly if its pieces, its keys and some counts pass their tests.
use Rattle.std.proofs.Common.{◌≡◌, ◌≤◌, ◌+◌, ◌*◌, inl, inr, not, ◌&&◌, ℕ, Bool, true, false, Some, List, [], ◌∷◌, length, refl, ap, subst, ◌∙◌, arith}
use Rattle.std.specs.List.{AllByRecursion}
use Rattle.std.proofs.lemmas.Bool.{and_parts}
use Rattle.pact_record.proofs.Lists.{AllByRecursion-weaker}
use Rattle.tac_syntax.specs.declared.functions.Function.{Function}
use Rattle.tac_syntax.specs.declared.functions.Kind.{Kind}
use Rattle.tac_syntax.specs.declared.functions.Kind.TheVariants.{Reduce}
use Rattle.tac_syntax.specs.declared.statements.LoopList.TheVariants.{Group}
use Rattle.tac_syntax.specs.Bounded.{NamesField, Names}
use Rattle.tac_syntax.specs.Limits.{statement_limit}
use Rattle.tac_syntax.specs.Code.{Simple, load_int, load_text, load_null, move_value, get_field, get_at, get_key, apply_one, apply_two, new_record, copy_record, set_field, set_at, emit_record, Code, stop, plain, branch, again, each, count_of}
use Rattle.tac_syntax.specs.Valid.{IsValid}
use Rattle.tac_syntax.specs.WellFormed.{IsWellFormed}
use Rattle.tac_syntax.proofs.Bodies.{count_of-joined}
use Rattle.tac_syntax.proofs.WellFormed.{valid_is_well_formed}
use Rattle.order_free.specs.declared.accumulators.Accumulation.{Accumulation}
use Rattle.order_free.specs.declared.accumulators.Accumulation.TheVariants.{Sum, Least, Greatest}
use Rattle.order_free.specs.OrderFree.{IsOrderFree}
use Rattle.order_free.specs.Registers.{value_at}
use Rattle.combine_rule.specs.declared.slots.Slot.{Slot}
use Rattle.combine_rule.specs.Pieces.{has_one_loop, front_of, loop_of, rest_of}
use Rattle.combine_rule.specs.Slots.{accumulation_of, accumulators_of, is_among, spare_fields, slots_with, slots_of, spare_register}
use Rattle.combine_rule.specs.Halves.{from_zero, zeroing, keying, giving, gathering, sending, sender_of, merger_of}
use Rattle.combine_rule.specs.Combinable.{IsCombinable, sender_with, merger_with}
use Rattle.combine_rule.specs.Tests.{sets_one_inside, sets_inside, weight, weights, sender_size, merger_size, PiecesPass, KeysPass, HasRoom}
use Rattle.combine_rule.proofs.PiecesOfBodies.{ArePieces, pieces}
use Rattle.combine_rule.proofs.SlotRuns.{AreInRange, AreFieldsIn, fields_of}
use Rattle.combine_rule.proofs.SlotsOfLoops.{Picked, all_picked, fields_all, are_slots, spare_is}
use Rattle.combine_rule.proofs.SetsOfAll.{all_have, have_all}
use Rattle.combine_rule.proofs.NamesOfJoined.{names-joined, joined-names}
use Rattle.combine_rule.proofs.ValidHalves.{IsSlotIn, few_statements, sender_is_valid, merger_is_valid, sender_says}

-- ---- the number of statements

count-from_zero : (by : Accumulation) (d : ℕ) (next : Code) → count_of (from_zero by d next) + 1 ≡ weight by + count_of next
count-from_zero Sum d next = omega arith
count-from_zero Least d next = omega arith
count-from_zero Greatest d next = omega arith

module _ (by : ℕ → Accumulation) where
  count-slots : (ds ks : List ℕ) (next rest : Code) → length ds ≤ length ks → count_of (zeroing (slots_with by ds ks) next) + count_of (giving (slots_with by ds ks) rest) ≡ weights by ds + count_of next + count_of rest
  count-slots [] ks next rest le = omega arith
  count-slots (d ∷ ds) [] next rest le = absurd (omega (arith, le))
  count-slots (d ∷ ds) (k ∷ ks) next rest le =
      let first = count-from_zero (by d) d (zeroing (slots_with by ds ks) next) in
      let behind = count-slots ds ks next rest (omega (arith, le)) in
      omega (arith, first, behind)

  count-gathering : (t : ℕ) (ds ks : List ℕ) → length ds ≤ length ks → count_of (gathering t (slots_with by ds ks)) ≡ 2 * length ds
  count-gathering t [] ks le = omega arith
  count-gathering t (d ∷ ds) [] le = absurd (omega (arith, le))
  count-gathering t (d ∷ ds) (k ∷ ks) le = omega (arith, count-gathering t ds ks (omega (arith, le)))

count-keying : (t at : ℕ) (keys : List ℕ) (next : Code) → count_of (keying t at keys next) ≡ 2 * length keys + count_of next
count-keying t at [] next = omega arith
count-keying t at (k ∷ ks) next = omega (arith, count-keying t (at + 1) ks next)

-- ---- the fields that are set

one_inside : (fields : ℕ) (set : ℕ → Bool) (s : Simple) → sets_one_inside fields set s ≡ true → (k : ℕ) → NamesField fields k s → set k ≡ true
one_inside fields set (load_int to value) h k named = absurd named
one_inside fields set (load_text to bytes) h k named = absurd named
one_inside fields set (load_null to) h k named = absurd named
one_inside fields set (move_value to from) h k named = absurd named
one_inside fields set (get_field to from field) h k named = absurd named
one_inside fields set (get_at to from at) h k named = absurd named
one_inside fields set (get_key to at) h k named = absurd named
one_inside fields set (apply_one to op a) h k named = absurd named
one_inside fields set (apply_two to op a b) h k named = absurd named
one_inside fields set (new_record to) h k named = absurd named
one_inside fields set (copy_record to from) h k named = absurd named
one_inside fields set (set_field to field value) h k named = ap set named ∙ h
one_inside fields set (set_at to at value) h k named = all_have set fields h k named
one_inside fields set (emit_record from) h k named = absurd named

inside_one : (fields : ℕ) (set : ℕ → Bool) (s : Simple) → ((k : ℕ) → NamesField fields k s → set k ≡ true) → sets_one_inside fields set s ≡ true
inside_one fields set (set_field to field value) h = h field refl
inside_one fields set (set_at to at value) h = have_all set fields h
inside_one fields set (load_int to value) h = refl
inside_one fields set (load_text to bytes) h = refl
inside_one fields set (load_null to) h = refl
inside_one fields set (move_value to from) h = refl
inside_one fields set (get_field to from field) h = refl
inside_one fields set (get_at to from at) h = refl
inside_one fields set (get_key to at) h = refl
inside_one fields set (apply_one to op a) h = refl
inside_one fields set (apply_two to op a b) h = refl
inside_one fields set (new_record to) h = refl
inside_one fields set (copy_record to from) h = refl
inside_one fields set (emit_record from) h = refl

both_true : (a b : Bool) → a ≡ true → b ≡ true → (a && b) ≡ true
both_true true b p q = q
both_true false b p q = cc

pub inside-names : (fields : ℕ) (set : ℕ → Bool) (c : Code) → sets_inside fields set c ≡ true → (k : ℕ) → Names fields k c → set k ≡ true
inside-names fields set stop h k named = absurd named
inside-names fields set (plain s next) h k named =
    let p = and_parts (sets_one_inside fields set s) (sets_inside fields set next) h in
    elim named as (λ _. set k ≡ true) [ inl a ↦ one_inside fields set s p.0 k a | inr b ↦ inside-names fields set next p.1 k b ]
inside-names fields set (branch on body other next) h k named =
    let p = and_parts (sets_inside fields set body) (sets_inside fields set other && sets_inside fields set next) h in
    let q = and_parts (sets_inside fields set other) (sets_inside fields set next) p.1 in
    elim named as (λ _. set k ≡ true) [
      | inl a ↦ inside-names fields set body p.0 k a
      | inr (inl b) ↦ inside-names fields set other q.0 k b
      | inr (inr c) ↦ inside-names fields set next q.1 k c
    ]
inside-names fields set (again count body next) h k named =
    let p = and_parts (sets_inside fields set body) (sets_inside fields set next) h in
    elim named as (λ _. set k ≡ true) [ inl a ↦ inside-names fields set body p.0 k a | inr b ↦ inside-names fields set next p.1 k b ]
inside-names fields set (each name list body next) h k named =
    let p = and_parts (sets_inside fields set body) (sets_inside fields set next) h in
    elim named as (λ _. set k ≡ true) [ inl a ↦ inside-names fields set body p.0 k a | inr b ↦ inside-names fields set next p.1 k b ]

pub names-inside : (fields : ℕ) (set : ℕ → Bool) (c : Code) → ((k : ℕ) → Names fields k c → set k ≡ true) → sets_inside fields set c ≡ true
names-inside fields set stop h = refl
names-inside fields set (plain s next) h =
    both_true (sets_one_inside fields set s) (sets_inside fields set next) (inside_one fields set s (λ k n. h k (inl n))) (names-inside fields set next (λ k n. h k (inr n)))
names-inside fields set (branch on body other next) h =
    both_true (sets_inside fields set body) (sets_inside fields set other && sets_inside fields set next) (names-inside fields set body (λ k n. h k (inl n)))
    (both_true (sets_inside fields set other) (sets_inside fields set next) (names-inside fields set other (λ k n. h k (inr (inl n)))) (names-inside fields set next (λ k n. h k (inr (inr n)))))
names-inside fields set (again count body next) h =
    both_true (sets_inside fields set body) (sets_inside fields set next) (names-inside fields set body (λ k n. h k (inl n))) (names-inside fields set next (λ k n. h k (inr n)))
names-inside fields set (each name list body next) h =
    both_true (sets_inside fields set body) (sets_inside fields set next) (names-inside fields set body (λ k n. h k (inl n))) (names-inside fields set next (λ k n. h k (inr n)))

-- the fields that a sender sets
module _ (fields k : ℕ) where
  zeroing_names : (slots : List Slot) (next : Code) → Names fields k (zeroing slots next) → Names fields k next
  zeroing_names [] next h = h
  zeroing_names (x ∷ xs) next h = zeroing_names xs next (behind x.by x.register (zeroing xs next) h) where
    behind : (by : Accumulation) (d : ℕ) (c : Code) → Names fields k (from_zero by d c) → Names fields k c
    behind Sum d c (inl g) = absurd g
    behind Sum d c (inr g) = g
    behind Least d c g = g
    behind Greatest d c g = g

  names_zeroing : (slots : List Slot) (next : Code) → Names fields k next → Names fields k (zeroing slots next)
  names_zeroing [] next h = h
  names_zeroing (x ∷ xs) next h = behind x.by x.register (zeroing xs next) (names_zeroing xs next h) where
    behind : (by : Accumulation) (d : ℕ) (c : Code) → Names fields k c → Names fields k (from_zero by d c)
    behind Sum d c g = inr g
    behind Least d c g = g
    behind Greatest d c g = g

  keying_names : (set : ℕ → Bool) (t at : ℕ) (keys : List ℕ) (next : Code) → AllByRecursion (λ j. set j ≡ true) keys → (Names fields k next → set k ≡ true) → Names fields k (keying t at keys next) → set k ≡ true
  keying_names set t at [] next inside f h = f h
  keying_names set t at (j ∷ js) next inside f (inl h) = absurd h
  keying_names set t at (j ∷ js) next inside f (inr (inl h)) = ap set h ∙ inside.0
  keying_names set t at (j ∷ js) next inside f (inr (inr h)) = keying_names set t (at + 1) js next inside.1 f h

  giving_names : (set : ℕ → Bool) (slots : List Slot) (next : Code) → AllByRecursion (λ j. set j ≡ true) (fields_of slots) → (Names fields k next → set k ≡ true) → Names fields k (giving slots next) → set k ≡ true
  giving_names set [] next inside f h = f h
  giving_names set (x ∷ xs) next inside f (inl h) = ap set h ∙ inside.0
  giving_names set (x ∷ xs) next inside f (inr h) = giving_names set xs next inside.1 f h

  sender_names : (set : ℕ → Bool) (c : Code) (t : ℕ) (keys : List ℕ) (slots : List Slot) → sets_inside fields set (front_of c) ≡ true → sets_inside fields set (loop_of c) ≡ true
      → AllByRecursion (λ j. set j ≡ true) keys → AllByRecursion (λ j. set j ≡ true) (fields_of slots) → Names fields k (sender_of c t keys slots) → set k ≡ true
  sender_names set c t keys slots front loop inside own h =
      elim (names-joined fields k (front_of c) (zeroing slots (each 1 Group (loop_of c) (sending t keys slots))) h) as (λ _. set k ≡ true) [
        | inl a ↦ inside-names fields set (front_of c) front k a
        | inr b ↦ elim (zeroing_names slots (each 1 Group (loop_of c) (sending t keys slots)) b) as (λ _. set k ≡ true) [
          | inl d ↦ inside-names fields set (loop_of c) loop k d
          | inr (inl e) ↦ absurd e
          | inr (inr e) ↦ keying_names set t 0 keys (giving slots (plain (emit_record 0) stop)) inside (giving_names set slots (plain (emit_record 0) stop) own (λ n. elim n as (λ _. set k ≡ true) [ inl x ↦ absurd x | inr y ↦ absurd y ])) e
        ]
      ]

-- ---- slots

both_in : (F : ℕ) (slots : List Slot) → AreInRange slots → AreFieldsIn F slots → AllByRecursion (IsSlotIn F) slots
both_in F [] a b = tt
both_in F (x ∷ xs) a b = ((a.0, b.0), both_in F xs a.1 b.1)

-- ---- the function

module _ (f : Function) (F : ℕ) (keys : List ℕ) (set : ℕ → Bool) (valid : IsValid f F) (kind : f.kind ≡ Reduce) (one : has_one_loop f.body ≡ true) where
  abbrev c : Code
  c = f.body

  abbrev slots : List Slot
  slots = slots_of (loop_of c) F keys set

  p : ArePieces F c
  p = pieces F c (subst (λ (k : Kind). IsWellFormed k F 0 c) kind (valid_is_well_formed f F valid)) one

  sizes : count_of c ≡ count_of (front_of c) + (1 + count_of (loop_of c) + count_of (rest_of c))
  sizes = ap count_of p.whole ∙ count_of-joined (front_of c) (each 1 Group (loop_of c) (rest_of c))

  -- each piece has at most the number of statements that a body may have
  pub few_in_pieces : (count_of (front_of c) ≤ statement_limit) × (count_of (loop_of c) ≤ statement_limit) × (count_of (rest_of c) ≤ statement_limit)
  few_in_pieces = let few = few_statements f F valid in (omega (arith, few, sizes), omega (arith, few, sizes), omega (arith, few, sizes))

  spare_inside : AllByRecursion (λ k. set k ≡ true) (spare_fields F keys set)
  spare_inside =
      AllByRecursion-weaker (Picked (λ k. set k && not (is_among keys k)) 0 F) (λ k. set k ≡ true) (spare_fields F keys set)
      (λ k h. (and_parts (set k) (not (is_among keys k)) h.2).0) (all_picked (λ k. set k && not (is_among keys k)) 0 F)

  module _ (room : length (accumulators_of (loop_of c)) ≤ length (spare_fields F keys set)) (t : ℕ) where
    sender_count : count_of (sender_of c t keys slots) ≡ sender_size (front_of c) (loop_of c) (length keys)
    sender_count =
        let ends = plain (emit_record 0) stop in
        let rest = each 1 Group (loop_of c) (sending t keys slots) in
        let whole = count_of-joined (front_of c) (zeroing slots rest) in
        let of_keys = count-keying t 0 keys (giving slots ends) in
        let of_slots = count-slots (accumulation_of (loop_of c)) (accumulators_of (loop_of c)) (spare_fields F keys set) rest ends room in
        omega (arith, whole, of_keys, of_slots)

    merger_count : count_of (merger_of c t slots) ≡ merger_size (front_of c) (loop_of c) (rest_of c)
    merger_count =
        let whole = count_of-joined (front_of c) (each 1 Group (gathering t slots) (rest_of c)) in
        let inside = count-gathering (accumulation_of (loop_of c)) t (accumulators_of (loop_of c)) (spare_fields F keys set) room in
        omega (arith, whole, inside)

  pub combinable_of : IsOrderFree f.kind f.body → PiecesPass (front_of c) (loop_of c) F set → KeysPass keys f.keys F set → HasRoom (front_of c) (loop_of c) (rest_of c) F keys set
      → (t : ℕ) → spare_register c ≡ Some t → IsCombinable f F keys set
  combinable_of free tested keyed room t e =
      let spare = spare_is c t e in
      let ok = are_slots Reduce F t keys set (loop_of c) 1 p.loop_well (p.unused (value_at t) spare.1).1 room.room in
      let own = both_in F slots ok.in_range ok.fields_in in
      record {
        kind = kind;
        order_free = free;
        one_loop = one;
        silent_front = tested.silent_front;
        silent_loop = tested.silent_loop;
        sums = tested.sums;
        keys_inside = keyed.inside;
        room = room.room;
        register = t;
        is_spare = e;
        sender_valid = sender_is_valid f F p valid kind t spare.0 slots own keys keyed.few keyed.below (omega (arith, sender_count room.room t, room.sender_small));
        merger_valid = merger_is_valid f F p valid kind t spare.0 slots own (omega (arith, merger_count room.room t, room.merger_small));
        named_inside = λ k named. sender_names F k set c t keys slots tested.front_inside tested.loop_inside keyed.inside
            (fields_all (accumulation_of (loop_of c)) (λ j. set j ≡ true) (accumulators_of (loop_of c)) (spare_fields F keys set) spare_inside) named;
      }

  module _ (h : IsCombinable f F keys set) where
    pub pieces_pass : PiecesPass (front_of c) (loop_of c) F set
    pieces_pass = record {
      silent_front = h.silent_front;
      silent_loop = h.silent_loop;
      front_inside = names-inside F set (front_of c) (λ k n. h.named_inside k (joined-names F k (front_of c) (zeroing slots (each 1 Group (loop_of c) (sending h.register keys slots))) (inl n)));
      loop_inside = names-inside F set (loop_of c) (λ k n. h.named_inside k (joined-names F k (front_of c) (zeroing slots (each 1 Group (loop_of c) (sending h.register keys slots)))
          (inr (names_zeroing F k slots (each 1 Group (loop_of c) (sending h.register keys slots)) (inl n)))));
      sums = h.sums;
    }

    pub keys_pass : KeysPass keys f.keys F set
    keys_pass =
        let said = sender_says f F h.register keys slots h.sender_valid in
        record { inside = h.keys_inside; below = said.1; few = said.0 }

    pub has_room : HasRoom (front_of c) (loop_of c) (rest_of c) F keys set
    has_room =
        let of_sender = few_statements (sender_with f F h.register keys set) F h.sender_valid in
        let of_merger = few_statements (merger_with f F h.register keys set) F h.merger_valid in
        record {
          room = h.room;
          sender_small = omega (arith, sender_count h.room h.register, of_sender);
          merger_small = omega (arith, merger_count h.room h.register, of_merger);
        }
