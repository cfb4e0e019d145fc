-- The law of a function, its sender and its merger. The sender emits one record for each part of a group. For these
-- records, one after the other, the merger emits what the function emits for the group.
use Rattle.std.proofs.Common.{◌≡◌, ◌≢◌, ◌<◌, ℕ, pos, Bool, true, false, not, ◌&&◌, ◌||◌, inl, inr, if◌then◌else◌, List, [], ◌∷◌, ◌++◌, length, get_or, refl, sym, ap, subst, ◌∙◌, arith}
use Rattle.std.proofs.lemmas.Bool.{cases_Bool, or_cases, or_left, or_right, and_parts, and_from, both_ways, false_from_ne_true, not-true, not_from_false}
use Rattle.std.proofs.lemmas.List.{length-replicate}
use Rattle.pact_record.specs.declared.values.Value.{Value}
use Rattle.pact_record.specs.declared.values.Value.TheVariants.{Null, Int}
use Rattle.pact_record.specs.Record.{at_field}
use Rattle.pact_record.specs.Operations.{applied2}
use Rattle.plan_trees.specs.Distinct.{IsAbsent, AreDifferent}
use Rattle.tac_syntax.specs.declared.functions.Kind.TheVariants.{Reduce}
use Rattle.tac_syntax.specs.declared.statements.LoopList.TheVariants.{Group}
use Rattle.tac_syntax.specs.Limits.{value_registers, record_registers}
use Rattle.tac_syntax.specs.Code.{Code, stop, plain, branch, again, each, joined}
use Rattle.tac_syntax.specs.Call.{Store, CallInput, of_group, value_in, record_in, start_store, empty_record, bind, Out}
use Rattle.tac_syntax.specs.Exec.{for_each, exec}
use Rattle.tac_syntax.specs.WellFormed.{IsWellFormed}
use Rattle.tac_syntax.proofs.StepsAsRecursion.{Out-exec, input-exec}
use Rattle.order_free.specs.declared.accumulators.Accumulation.{Accumulation}
use Rattle.order_free.specs.declared.accumulators.Accumulation.TheVariants.{Sum, Least, Greatest}
use Rattle.order_free.specs.Registers.{Register, value_at, record_at, RegisterSet, no_registers, is_value, has_operand, assigns, occurs, is_assigned, has_first}
use Rattle.order_free.specs.Liveness.{is_live, live}
use Rattle.order_free.specs.Accumulators.{op_of, occurs_otherwise, is_accumulator}
use Rattle.order_free.specs.OrderFree.{AreLoopsFree, is_local}
use Rattle.order_free.proofs.Accumulated.{accumulated}
use Rattle.order_free.proofs.LiveSets.{is_live-from}
use Rattle.order_free.proofs.ReorderedInputs.{input_itself}
use Rattle.order_free.proofs.AgreeingStores.{IsWhole, Agree, Agree-fewer, IsWhole-bind, IsWhole-outside}
use Rattle.order_free.proofs.KeptRegisters.{exec-kept}
use Rattle.order_free.proofs.SameEffectsOfBodies.{exec-same}
use Rattle.combine_rule.specs.Pieces.{has_each, has_emit, has_one_loop, occurs_in, front_of, loop_of, rest_of}
use Rattle.combine_rule.specs.declared.slots.Slot.{Slot}
use Rattle.combine_rule.specs.Slots.{accumulation_of, is_taken_up, is_among}
use Rattle.combine_rule.specs.Splits.{all_parts}
use Rattle.combine_rule.specs.Halves.{zeroing, gathering, sending, sender_of, merger_of}
use Rattle.combine_rule.proofs.Absorbed.{absorbed, still_absorbs, takes_itself, takes_itself_too}
use Rattle.combine_rule.proofs.MovedInputs.{over, exec-moves, turns-move}
use Rattle.combine_rule.proofs.SilentBodies.{turns-silent, exec-silent}
use Rattle.combine_rule.proofs.PiecesOfBodies.{exec-joined, ArePieces, pieces}
use Rattle.combine_rule.proofs.SlotRuns.{HasSlot, registers_of, fields_of, starting, AreInRange, AreFieldsIn, AreBelow, HasKeysAt, zeroed, gathered, sent}

-- ---- registers

-- a register that is live before a body, with nothing live after it, occurs in the body
pub live-occurs : (c : Code) (r : Register) → is_live c r false ≡ true → occurs_in c r ≡ true
live-occurs stop r h = cc
live-occurs (plain a next) r h = elim (or_cases (has_operand a r) (is_live next r false && not (assigns a r)) h) as (λ _. (occurs a r || occurs_in next r) ≡ true) [
  | inl p ↦ or_left (occurs a r) (occurs_in next r) (or_left (has_operand a r) (assigns a r) p)
  | inr p ↦ or_right (occurs a r) (occurs_in next r) (live-occurs next r (and_parts (is_live next r false) (not (assigns a r)) p).0)
]
live-occurs (branch on body other next) r h =
    let rest = occurs_in body r || (occurs_in other r || occurs_in next r) in
    let behind = is_live next r false in
    let at_next = λ (p : behind ≡ true). or_right (is_value on r) rest (or_right (occurs_in body r) (occurs_in other r || occurs_in next r) (or_right (occurs_in other r) (occurs_in next r) (live-occurs next r p))) in
    elim (or_cases (is_value on r) (is_live body r behind || is_live other r behind) h) as (λ _. (is_value on r || rest) ≡ true) [
      | inl p ↦ or_left (is_value on r) rest p
      | inr p ↦ elim (or_cases (is_live body r behind) (is_live other r behind) p) as (λ _. (is_value on r || rest) ≡ true) [
        | inl q ↦ elim (is_live-from body r behind q) as (λ _. (is_value on r || rest) ≡ true) [
          | inl z ↦ or_right (is_value on r) rest (or_left (occurs_in body r) (occurs_in other r || occurs_in next r) (live-occurs body r z))
          | inr z ↦ at_next z
        ]
        | inr q ↦ elim (is_live-from other r behind q) as (λ _. (is_value on r || rest) ≡ true) [
          | inl z ↦ or_right (is_value on r) rest (or_right (occurs_in body r) (occurs_in other r || occurs_in next r) (or_left (occurs_in other r) (occurs_in next r) (live-occurs other r z)))
          | inr z ↦ at_next z
        ]
      ]
    ]
live-occurs (again count body next) r h = elim (is_live-from body r (is_live next r false) h) as (λ _. (occurs_in body r || occurs_in next r) ≡ true) [
  | inl z ↦ or_left (occurs_in body r) (occurs_in next r) (live-occurs body r z)
  | inr z ↦ or_right (occurs_in body r) (occurs_in next r) (live-occurs next r z)
]
live-occurs (each name list body next) r h = elim (or_cases (is_live next r false) (is_live body r (is_live next r false)) h) as (λ _. (occurs_in body r || occurs_in next r) ≡ true) [
  | inl z ↦ or_right (occurs_in body r) (occurs_in next r) (live-occurs next r z)
  | inr q ↦ elim (is_live-from body r (is_live next r false) q) as (λ _. (occurs_in body r || occurs_in next r) ≡ true) [
    | inl z ↦ or_left (occurs_in body r) (occurs_in next r) (live-occurs body r z)
    | inr z ↦ or_right (occurs_in body r) (occurs_in next r) (live-occurs next r z)
  ]
]

first_kept : (body : Code) (d : ℕ) (p q r : Bool) → occurs_otherwise Sum (value_at d) body ≡ p → occurs_otherwise Least (value_at d) body ≡ q → occurs_otherwise Greatest (value_at d) body ≡ r → (not p || (not q || not r)) ≡ true
    → occurs_otherwise (if not p then Sum else (if not q then Least else Greatest)) (value_at d) body ≡ false
first_kept body d false q r a b c h = a
first_kept body d true false r a b c h = b
first_kept body d true true false a b c h = c
first_kept body d true true true a b c h = cc

keeps_otherwise : (body : Code) (d : ℕ) → is_accumulator body (value_at d) ≡ true → occurs_otherwise (accumulation_of body d) (value_at d) body ≡ false
keeps_otherwise body d h = first_kept body d (occurs_otherwise Sum (value_at d) body) (occurs_otherwise Least (value_at d) body) (occurs_otherwise Greatest (value_at d) body) refl refl refl h

absent-from : (k : ℕ) (slots : List Slot) → ((x : Slot) → HasSlot slots x → k ≢ x.register) → IsAbsent k (registers_of slots)
absent-from k [] f = tt
absent-from k (y ∷ ys) f = (f y (inl refl), absent-from k ys (λ x h. f x (inr h)))

-- ---- turns

pub turns-append : (name : ℕ) (f : Store → Store) (xs ys : List (List Value)) (s : Store) → for_each name (xs ++ ys) f s ≡ for_each name ys f (for_each name xs f s)
turns-append name f [] ys s = refl
turns-append name f (x ∷ xs) ys s = turns-append name f xs ys (f (bind s name x))

-- ---- stores that agree, for any groups

pub record Near (set : RegisterSet) (s t : Store) : Type 0 where
  pub own : IsWhole 0 s
  pub other : IsWhole 0 t
  pub fields : s.fields ≡ t.fields
  pub values : (k : ℕ) → set (value_at k) ≡ true → value_in s k ≡ value_in t k
  pub records : (k : ℕ) → set (record_at k) ≡ true → record_in s k ≡ record_in t k

whole_over : (key : List Value) (group : List (List Value)) (s : Store) → IsWhole 0 s → IsWhole 0 (over key group s)
whole_over key group s w = record { values = w.values; records = w.records; loops = w.loops }

whole_under : (key : List Value) (group : List (List Value)) (s : Store) → IsWhole 0 (over key group s) → IsWhole 0 s
whole_under key group s w = record { values = w.values; records = w.records; loops = w.loops }

near-over : (key : List Value) (group : List (List Value)) (set : RegisterSet) (s t : Store) → Near set s t → Agree 0 set (over key group s) (over key group t)
near-over key group set s t h = record {
  own = whole_over key group s h.own;
  other = whole_over key group t h.other;
  fields = h.fields;
  inputs = input_itself (of_group key group);
  loops = refl;
  values = h.values;
  records = h.records;
}

-- the registers that a body doesn't assign
abbrev pub unassigned : Code → RegisterSet
unassigned body r = not (is_assigned body r)

pub start-whole : (F : ℕ) (x : CallInput) → IsWhole 0 (start_store F x)
start-whole F x = record { values = length-replicate value_registers Null; records = length-replicate record_registers (empty_record F); loops = omega arith }

-- ---- a body of three pieces, called for a group

abbrev pub start_of : ℕ → List Value → Store
start_of F key = start_store F (of_group key [])

module _ (F : ℕ) (key : List Value) (front : Code) (flat : has_each front ≡ false) (first : has_first front ≡ false) where
  -- the front of a body does the same for every group
  pub front-over : (group : List (List Value)) → exec front (start_store F (of_group key group)) ≡ over key group (exec front (start_of F key))
  front-over group = exec-moves key front flat first group (start_of F key)

  module _ (loop rest : Code) (loop_flat : has_each loop ≡ false) (loop_first : has_first loop ≡ false) where
    -- the call of the whole body, with the turns of its loop over the group
    pub called : (group : List (List Value)) → Out F (joined front (each 1 Group loop rest)) (of_group key group)
        ≡ (exec rest (over key group (for_each 1 group (exec loop) (over key [] (exec front (start_of F key)))))).emitted
    called group =
        let body = joined front (each 1 Group loop rest) in
        Out-exec F body (of_group key group)
        ∙ ap (λ (s : Store). s.emitted) (
        exec-joined front (each 1 Group loop rest) (start_store F (of_group key group))
        ∙ ap (exec (each 1 Group loop rest)) (front-over group)
        ∙ ap (exec rest) (turns-move key 1 group (exec loop) (exec-moves key loop loop_flat loop_first) group (exec front (start_of F key)))
        )

-- ---- the law

-- the facts about the slots of a function's loop
pub record AreSlots (F t : ℕ) (keys : List ℕ) (loop : Code) (slots : List Slot) : Type 0 where
  pub in_range : AreInRange slots
  pub registers : AreDifferent (registers_of slots)
  pub spare : IsAbsent t (registers_of slots)
  pub fields_in : AreFieldsIn F slots
  pub fields : AreDifferent (fields_of slots)
  pub outside : (k : ℕ) → is_among keys k ≡ true → IsAbsent k (fields_of slots)
  pub taken : (x : Slot) → HasSlot slots x → (is_taken_up loop x.register ≡ true) × (x.by ≡ accumulation_of loop x.register)
  pub all : (d : ℕ) → is_taken_up loop d ≡ true → (x : Slot) × HasSlot slots x × (x.register ≡ d)

module _ (F : ℕ) (c : Code) (w : IsWellFormed Reduce F 0 c) (one : has_one_loop c ≡ true) (no_first : has_first c ≡ false) (free : AreLoopsFree c no_registers)
    (quiet_front : has_emit (front_of c) ≡ false) (quiet_loop : has_emit (loop_of c) ≡ false)
    (t : ℕ) (t_below : t < value_registers) (unused : occurs_in c (value_at t) ≡ false) (keys : List ℕ) (keys_below : AreBelow F keys) (slots : List Slot) (ok : AreSlots F t keys (loop_of c) slots) where
  p : ArePieces F c
  p = pieces F c w one

  abbrev P : Code
  P = front_of c

  abbrev L : Code
  L = loop_of c

  abbrev Q : Code
  Q = rest_of c

  -- ---- registers

  -- registers that a turn reads, other than accumulators, aren't assigned in it
  read_unassigned : (r : Register) → (is_live L r false && not (is_accumulator L r)) ≡ true → unassigned L r ≡ true
  read_unassigned r h =
      let q = and_parts (is_live L r false) (not (is_accumulator L r)) h in
      not_from_false (is_assigned L r) (false_from_ne_true (is_assigned L r) (λ i. elim (or_cases (is_accumulator L r) (is_local L (live Q no_registers) r) (p.free free r i)) as (λ _. ⊥) [
        | inl a ↦ both_ways (is_accumulator L r) (not-true (is_accumulator L r) q.1) a
        | inr b ↦
            let z = and_parts (not (is_live L r false)) (not (live Q no_registers r)) b in
            both_ways (is_live L r false) (not-true (is_live L r false) z.0) q.0
      ]))

  -- registers that are live after the loop are accumulators, or the loop doesn't assign them
  live_assigned : (r : Register) → live Q no_registers r ≡ true → is_assigned L r ≡ true → is_accumulator L r ≡ true
  live_assigned r h i = elim (or_cases (is_accumulator L r) (is_local L (live Q no_registers) r) (p.free free r i)) as (λ _. is_accumulator L r ≡ true) [
    | inl a ↦ a
    | inr b ↦
        let z = and_parts (not (is_live L r false)) (not (live Q no_registers r)) b in
        absurd (both_ways (live Q no_registers r) (not-true (live Q no_registers r) z.1) h)
  ]

  -- ---- one part, from two stores

  module _ (key : List Value) where
    abbrev run : List (List Value) → Store → Store
    run part s = for_each 1 part (exec L) (over key [] s)

    abbrev loop_alone : Code
    loop_alone = each 1 Group L stop

    loop_moves : (part : List (List Value)) (s : Store) → exec loop_alone (over key part s) ≡ over key part (run part s)
    loop_moves part s = turns-move key 1 part (exec L) (exec-moves key L p.flat.1 (p.no_first no_first).1) part s

    -- The turns over a part feed the same operands to each accumulator from either store.
    pub record TakesFrom (part : List (List Value)) (s z : Store) : Type 0 where
      pub operands : ℕ → List Value
      pub own : (d : ℕ) → is_accumulator L (value_at d) ≡ true → value_in (run part s) d ≡ accumulated (accumulation_of L d) (value_in s d) (operands d)
      pub other : (d : ℕ) → is_accumulator L (value_at d) ≡ true → value_in (run part z) d ≡ accumulated (accumulation_of L d) (value_in z d) (operands d)

    none_of : (a b : Bool) → a ≡ false → b ≡ false → (a || b) ≡ false
    none_of true b x y = cc
    none_of false b x y = y

    takes : (part : List (List Value)) (s z : Store) → Near (unassigned L) s z → TakesFrom part s z
    takes part s z near =
        let e = exec-same (is_accumulator L) (accumulation_of L) (λ k. refl) Reduce F loop_alone 0 no_registers (over key part s) (over key part z)
        (refl, refl, p.loop_well, tt, omega arith) (none_of (has_first L) false (p.no_first no_first).1 refl)
        (λ d i. none_of (occurs_otherwise (accumulation_of L d) (value_at d) L) false (keeps_otherwise L d i) refl) refl
        (Agree-fewer (unassigned L) (λ r. is_live L r false && not (is_accumulator L r)) read_unassigned (near-over key part (unassigned L) s z near)) in
        record {
          operands = e.effect.operands;
          own = λ d i. ap (λ (u : Store). value_in u d) (sym (loop_moves part s)) ∙ e.own.taken d i;
          other = λ d i. ap (λ (u : Store). value_in u d) (sym (loop_moves part z)) ∙ e.other.taken d i;
        }

    -- ---- the sender

    abbrev base : Store
    base = exec P (start_of F key)

    base_kept : (set : RegisterSet) → ((r : Register) → set r ≡ true → is_assigned P r ≡ false) → Agree 0 set (start_of F key) base
    base_kept set f = exec-kept set Reduce F P 0 (start_of F key) p.front_well f (start-whole F (of_group key []))

    base_whole : IsWhole 0 base
    base_whole = (base_kept no_registers (λ r h. cc)).other

    base_fields : base.fields ≡ F
    base_fields = sym (base_kept no_registers (λ r h. cc)).fields

    base_input : base.input ≡ of_group key []
    base_input = input-exec P (start_of F key)

    base_silent : base.emitted ≡ []
    base_silent = exec-silent P quiet_front (start_of F key)

    -- a store whose accumulators hold the sender's start values
    pub record Starts (z : Store) : Type 0 where
      pub near : Near (unassigned L) base z
      pub from : (x : Slot) → HasSlot slots x → value_in z x.register ≡ starting x.by (value_in base x.register)

    -- The record is what the sender emits for the part. Its key fields hold the key values. The fields of the slots
    -- hold what the turns left in the accumulators, starting from such a store.
    pub record IsPartial (v : ℕ → Value) (part : List (List Value)) (row : List Value) : Type 0 where
      pub z : Store
      pub starts : Starts z
      pub width : length row ≡ F
      pub keys_are : (k : ℕ) → is_among keys k ≡ true → at_field row k ≡ v k
      pub gives : (x : Slot) → HasSlot slots x → at_field row x.field ≡ value_in (run part z) x.register

    slot_not_unassigned : (x : Slot) → HasSlot slots x → unassigned L (value_at x.register) ≡ true → ⊥
    slot_not_unassigned x h u =
        let a = and_parts (is_assigned L (value_at x.register)) (is_accumulator L (value_at x.register)) (ok.taken x h).0 in
        both_ways (is_assigned L (value_at x.register)) (not-true (is_assigned L (value_at x.register)) u) a.0

    apart_from_slots : (k : ℕ) → unassigned L (value_at k) ≡ true → IsAbsent k (registers_of slots)
    apart_from_slots k u = absent-from k slots (λ x h e. slot_not_unassigned x h (subst (λ (j : ℕ). unassigned L (value_at j) ≡ true) e u))

    over_itself : (group : List (List Value)) (z : Store) → z.input ≡ of_group key group → z ≡ over key group z
    over_itself group z e = λ i. record z { input = e i }

    -- the sender emits exactly one such record for each part
    pub sender_gives : (v : ℕ → Value) → HasKeysAt v key 0 keys → (part : List (List Value))
        → (row : List Value) × (Out F (sender_of c t keys slots) (of_group key part) ≡ row ∷ []) × IsPartial v part row
    sender_gives v has part =
        let tail = sending t keys slots in
        let loop = each 1 Group L tail in
        let body = sender_of c t keys slots in
        let s0 = over key part base in
        let zs = zeroed slots loop s0 ok.in_range ok.registers (whole_over key part base base_whole) in
        let z = zs.0 in
        let same = over_itself part z zs.2.only.input in
        let end = over key part (run part z) in
        let kept = exec-kept no_registers Reduce F loop_alone 0 (over key part z) (refl, refl, p.loop_well, tt, omega arith) (λ r h. cc) (whole_over key part z zs.2.only.whole) in
        let kept_end = subst (λ (u : Store). Agree 0 no_registers (over key part z) u) (loop_moves part z) kept in
        let q = sent F t v key keys slots end t_below keys_below has ok.fields_in ok.fields ok.spare ok.outside refl (sym kept_end.fields ∙ zs.2.only.fields ∙ base_fields) kept_end.other in
        let silent : end.emitted ≡ [] = turns-silent 1 part (exec L) (exec-silent L quiet_loop) (over key [] z) ∙ zs.2.only.emitted ∙ base_silent in (
          q.0,
          Out-exec F body (of_group key part)
              ∙ ap (λ (s : Store). s.emitted) (
              exec-joined P (zeroing slots loop) (start_store F (of_group key part))
              ∙ ap (exec (zeroing slots loop)) (front-over F key P p.flat.0 (p.no_first no_first).0 part)
              ∙ zs.1
              ∙ ap (exec loop) same
              ∙ ap (exec tail) (loop_moves part z)
              )
              ∙ q.1
              ∙ ap (λ (l : List (List Value)). l ++ q.0 ∷ []) silent,
          record {
            z = z;
            starts = record {
              near = record {
                own = base_whole;
                other = zs.2.only.whole;
                fields = sym zs.2.only.fields;
                values = λ k u. sym (zs.2.others k (apart_from_slots k u));
                records = λ k u. ap (λ (l : List (List Value)). get_or l k []) (sym zs.2.only.records);
              };
              from = λ x h. zs.2.at x h;
            };
            width = q.2.width;
            keys_are = q.2.keys_are;
            gives = λ x h. q.2.at x h;
          },
        )

    -- ---- one turn of the merger for one part

    -- Each accumulator holds the same value in the function's store and in the merger's. The value has already absorbed
    -- the sender's start value.
    pub record Together (s m : Store) : Type 0 where
      pub near : Near (unassigned L) base s
      pub whole : IsWhole 0 m
      pub fields : base.fields ≡ m.fields
      pub input : s.input ≡ of_group key []
      pub other_input : m.input ≡ of_group key []
      pub records : m.records ≡ base.records
      pub others : (k : ℕ) → k ≢ t → IsAbsent k (registers_of slots) → value_in m k ≡ value_in base k
      pub same : (x : Slot) → HasSlot slots x → value_in m x.register ≡ value_in s x.register
      pub absorbs : (x : Slot) → HasSlot slots x → applied2 (op_of x.by) (value_in s x.register) (starting x.by (value_in base x.register)) ≡ value_in s x.register
      pub emitted : s.emitted ≡ []
      pub other_emitted : m.emitted ≡ []

    run_kept : (part : List (List Value)) (s : Store) → Near (unassigned L) base s → Near (unassigned L) base (run part s)
    run_kept part s h =
        let k = exec-kept (unassigned L) Reduce F loop_alone 0 (over key part s) (refl, refl, p.loop_well, tt, omega arith)
        (λ r e. none_of (is_assigned L r) false (not-true (is_assigned L r) e) refl) (whole_over key part s h.other) in
        let g = subst (λ (u : Store). Agree 0 (unassigned L) (over key part s) u) (loop_moves part s) k in
        record {
          own = h.own;
          other = whole_under key part (run part s) g.other;
          fields = h.fields ∙ g.fields;
          values = λ j u. h.values j u ∙ g.values j u;
          records = λ j u. h.records j u ∙ g.records j u;
        }

    near_both : (s z : Store) → Near (unassigned L) base s → Near (unassigned L) base z → Near (unassigned L) s z
    near_both s z h g = record {
      own = h.other;
      other = g.other;
      fields = sym h.fields ∙ g.fields;
      values = λ k u. sym (h.values k u) ∙ g.values k u;
      records = λ k u. sym (h.records k u) ∙ g.records k u;
    }

    slot_accumulates : (x : Slot) → HasSlot slots x → is_accumulator L (value_at x.register) ≡ true
    slot_accumulates x h = (and_parts (is_assigned L (value_at x.register)) (is_accumulator L (value_at x.register)) (ok.taken x h).0).1

    abbrev merge : List Value → Store → Store
    merge row m = exec (gathering t slots) (bind m 1 row)

    pub merged : (v : ℕ → Value) (part : List (List Value)) (row : List Value) (s m : Store) → IsPartial v part row → Together s m → Together (run part s) (merge row m)
    merged v part row s m partial h =
        let z = partial.z in
        let e = takes part s z (near_both s z h.near partial.starts.near) in
        let g = gathered t slots (bind m 1 row) t_below ok.in_range ok.spare ok.registers (IsWhole-outside 0 (bind m 1 row) (IsWhole-bind 0 1 m row refl h.whole)) in
        let grown : (x : Slot) → HasSlot slots x → value_in (run part s) x.register ≡ accumulated x.by (value_in s x.register) (e.operands x.register) =
        λ x i. subst (λ (by : Accumulation). value_in (run part s) x.register ≡ accumulated by (value_in s x.register) (e.operands x.register)) (sym (ok.taken x i).1) (e.own x.register (slot_accumulates x i)) in
        let sent_is : (x : Slot) → HasSlot slots x → at_field row x.field ≡ accumulated x.by (starting x.by (value_in base x.register)) (e.operands x.register) =
        λ x i. partial.gives x i
        ∙ subst (λ (by : Accumulation). value_in (run part z) x.register ≡ accumulated by (value_in z x.register) (e.operands x.register)) (sym (ok.taken x i).1) (e.other x.register (slot_accumulates x i))
        ∙ ap (λ (y : Value). accumulated x.by y (e.operands x.register)) (partial.starts.from x i) in
        record {
          near = run_kept part s h.near;
          whole = g.only.whole;
          fields = h.fields ∙ sym g.only.fields;
          input = ap (λ (u : Store). u.input) (turns-move key 1 part (exec L) (exec-moves key L p.flat.1 (p.no_first no_first).1) [] s);
          other_input = g.only.input ∙ h.other_input;
          records = g.only.records ∙ h.records;
          others = λ k ne a. g.others k ne a ∙ h.others k ne a;
          same = λ x i.
              g.at x i
              ∙ (λ j. applied2 (op_of x.by) (h.same x i j) (sent_is x i j))
              ∙ absorbed x.by (value_in s x.register) (starting x.by (value_in base x.register)) (e.operands x.register) (h.absorbs x i)
              ∙ sym (grown x i);
          absorbs = λ x i.
              ap (λ (y : Value). applied2 (op_of x.by) y (starting x.by (value_in base x.register))) (grown x i)
              ∙ still_absorbs x.by (value_in s x.register) (starting x.by (value_in base x.register)) (e.operands x.register) (h.absorbs x i)
              ∙ sym (grown x i);
          emitted = turns-silent 1 part (exec L) (exec-silent L quiet_loop) (over key [] s) ∙ h.emitted;
          other_emitted = g.only.emitted ∙ h.other_emitted;
        }

    -- ---- all parts

    -- each row is the partial record of the part at the same place
    abbrev pub ArePartials : (ℕ → Value) → List (List (List Value)) → List (List Value) → Type 0
    ArePartials v [] [] = Unit {0}
    ArePartials v [] (row ∷ rows) = ⊥
    ArePartials v (part ∷ parts) [] = ⊥
    ArePartials v (part ∷ parts) (row ∷ rows) = IsPartial v part row × ArePartials v parts rows

    all_merged : (v : ℕ → Value) (parts : List (List (List Value))) (rows : List (List Value)) (s m : Store) → ArePartials v parts rows → Together s m
        → Together (run (all_parts parts) s) (for_each 1 rows (exec (gathering t slots)) m)
    all_merged v [] [] s m partials h = subst (λ (u : Store). Together u m) (over_itself [] s h.input) h
    all_merged v [] (row ∷ rows) s m partials h = absurd partials
    all_merged v (part ∷ parts) [] s m partials h = absurd partials
    all_merged v (part ∷ parts) (row ∷ rows) s m partials h =
        let one = merged v part row s m partials.0 h in
        let rest = all_merged v parts rows (run part s) (merge row m) partials.1 one in
        let moved : run (all_parts parts) (run part s) ≡ run (part ++ all_parts parts) s =
        ap (for_each 1 (all_parts parts) (exec L)) (sym (over_itself [] (run part s) one.input)) ∙ sym (turns-append 1 (exec L) part (all_parts parts) (over key [] s)) in
        subst (λ (u : Store). Together u (for_each 1 rows (exec (gathering t slots)) (merge row m))) moved rest

    -- ---- after the loop

    gathering_flat : (xs : List Slot) → has_each (gathering t xs) ≡ false
    gathering_flat [] = refl
    gathering_flat (x ∷ xs) = gathering_flat xs

    gathering_first : (xs : List Slot) → has_first (gathering t xs) ≡ false
    gathering_first [] = refl
    gathering_first (x ∷ xs) = gathering_first xs

    -- the function starts its sums from 64-bit numbers
    abbrev pub SumsAreNumbers : Type 0
    SumsAreNumbers = (x : Slot) → HasSlot slots x → x.by ≡ Sum → applied2 (op_of Sum) (value_in base x.register) (Int (pos 0)) ≡ value_in base x.register

    starts_absorbed : (by : Accumulation) (v : Value) → (by ≡ Sum → applied2 (op_of Sum) v (Int (pos 0)) ≡ v) → applied2 (op_of by) v (starting by v) ≡ v
    starts_absorbed Sum v h = h refl
    starts_absorbed Least v h = takes_itself v
    starts_absorbed Greatest v h = takes_itself_too v

    at_start : SumsAreNumbers → Together base base
    at_start numbers = record {
      near = record { own = base_whole; other = base_whole; fields = refl; values = λ k u. refl; records = λ k u. refl };
      whole = base_whole;
      fields = refl;
      input = base_input;
      other_input = base_input;
      records = refl;
      others = λ k ne a. refl;
      same = λ x h. refl;
      absorbs = λ x h. starts_absorbed x.by (value_in base x.register) (numbers x h);
      emitted = base_silent;
      other_emitted = base_silent;
    }

    not_spare : (k : ℕ) → live Q no_registers (value_at k) ≡ true → k ≢ t
    not_spare k h e = both_ways (occurs_in Q (value_at k)) (subst (λ (j : ℕ). occurs_in Q (value_at j) ≡ false) (sym e) (p.unused (value_at t) unused).2) (live-occurs Q (value_at k) h)

    -- registers that are live after the loop hold the same
    live_same : (s m : Store) → Together s m → Near (live Q no_registers) s m
    live_same s m h = record {
      own = h.near.other;
      other = h.whole;
      fields = sym h.near.fields ∙ h.fields;
      values = λ k l. elim (cases_Bool (is_assigned L (value_at k))) as (λ _. value_in s k ≡ value_in m k) [
        | inl i ↦
            let x = ok.all k (and_from (is_assigned L (value_at k)) (is_accumulator L (value_at k)) i (live_assigned (value_at k) l i)) in
            subst (λ (j : ℕ). value_in s j ≡ value_in m j) x.2 (sym (h.same x.0 x.1))
        | inr i ↦
            let u = not_from_false (is_assigned L (value_at k)) i in
            sym (h.near.values k u) ∙ sym (h.others k (not_spare k l) (apart_from_slots k u))
      ];
      records = λ k l. elim (cases_Bool (is_assigned L (record_at k))) as (λ _. record_in s k ≡ record_in m k) [
        | inl i ↦ absurd (both_ways false refl (live_assigned (record_at k) l i))
        | inr i ↦ sym (h.near.records k (not_from_false (is_assigned L (record_at k)) i)) ∙ ap (λ (l : List (List Value)). get_or l k []) (sym h.records)
      ];
    }

    rest_same : (s m : Store) → Together s m → (exec Q (over key [] s)).emitted ≡ (exec Q (over key [] m)).emitted
    rest_same s m h =
        let e = exec-same no_registers (λ d. Sum) (λ k. refl) Reduce F Q 0 no_registers (over key [] s) (over key [] m) p.rest_well (p.no_first no_first).2 (λ d i. cc) refl
        (Agree-fewer (live Q no_registers) (λ r. live Q no_registers r && not false) (λ r i. (and_parts (live Q no_registers r) (not false) i).0) (near-over key [] (live Q no_registers) s m (live_same s m h))) in
        e.own.emitted ∙ ap (λ (l : List (List Value)). l ++ e.effect.emits) (h.emitted ∙ sym h.other_emitted) ∙ sym e.other.emitted

    rest_over : (group : List (List Value)) (s : Store) → (exec Q (over key group s)).emitted ≡ (exec Q (over key [] s)).emitted
    rest_over group s = ap (λ (u : Store). u.emitted) (exec-moves key Q p.flat.2 (p.no_first no_first).2 group s)

    base_over : over key [] base ≡ base
    base_over = sym (over_itself [] base base_input)

    -- The law: for the sender's records of the parts the merger emits what the function emits for all parts together.
    pub merger_gives : SumsAreNumbers → (v : ℕ → Value) (parts : List (List (List Value))) (rows : List (List Value)) → ArePartials v parts rows
        → Out F c (of_group key (all_parts parts)) ≡ Out F (merger_of c t slots) (of_group key rows)
    merger_gives numbers v parts rows partials =
        let G = all_parts parts in
        let s = run G base in
        let m = for_each 1 rows (exec (gathering t slots)) base in
        let h : Together s m = all_merged v parts rows base base partials (at_start numbers) in
        ap (λ (d : Code). Out F d (of_group key G)) p.whole
        ∙ called F key P p.flat.0 (p.no_first no_first).0 L Q p.flat.1 (p.no_first no_first).1 G
        ∙ rest_over G s
        ∙ rest_same s m h
        ∙ sym (rest_over rows m)
        ∙ ap (λ (u : Store). (exec Q (over key rows (for_each 1 rows (exec (gathering t slots)) u))).emitted) (sym base_over)
        ∙ sym (called F key P p.flat.0 (p.no_first no_first).0 (gathering t slots) Q (gathering_flat slots) (gathering_first slots) rows)
