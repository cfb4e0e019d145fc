-- Two turns of a free loop may change places.
use Rattle.std.proofs.Common.{◌≡◌, ◌+◌, ◌⊎◌, ℕ, Bool, true, false, not, ◌&&◌, ◌||◌, inl, inr, if◌then◌else◌, List, refl, sym, ◌∙◌}
use Rattle.std.proofs.lemmas.Bool.{cases_Bool, or_cases, and_parts, and_from, both_ways, false_from_ne_true, not-true, not_from_false}
use Rattle.pact_record.specs.declared.values.Value.{Value}
use Rattle.pact_record.proofs.Permutations.{Perm, chains, is_same, before, crossed_over}
use Rattle.tac_syntax.specs.declared.functions.Kind.{Kind}
use Rattle.tac_syntax.specs.Code.{Code}
use Rattle.tac_syntax.specs.Call.{Store, value_in, bind}
use Rattle.tac_syntax.specs.Exec.{exec}
use Rattle.tac_syntax.specs.WellFormed.{IsWellFormed}
use Rattle.tac_syntax.proofs.StepsAsRecursion.{input-exec}
use Rattle.order_free.specs.declared.accumulators.Accumulation.{Accumulation}
use Rattle.order_free.specs.declared.accumulators.Accumulation.TheVariants.{Sum, Least, Greatest}
use Rattle.order_free.specs.Registers.{Register, value_at, record_at, RegisterSet, no_registers, is_assigned, has_first}
use Rattle.order_free.specs.Liveness.{is_live, live, live_at_end}
use Rattle.order_free.specs.Accumulators.{occurs_otherwise, is_accumulator}
use Rattle.order_free.specs.OrderFree.{IsLoopFree, is_local}
use Rattle.order_free.proofs.Accumulated.{accumulated-perm}
use Rattle.order_free.proofs.LiveSets.{is_live-from}
use Rattle.order_free.proofs.AgreeingStores.{IsWhole, Agree, Agree-chained, Agree-turned, Agree-bind}
use Rattle.order_free.proofs.KeptRegisters.{exec_turn-kept}
use Rattle.order_free.proofs.Effects.{Effect, HasEffect, HasEffect-both}
use Rattle.order_free.proofs.SameEffects.{HaveSameEffect}
use Rattle.order_free.proofs.SameEffectsOfBodies.{exec-same}

-- the operation of an accumulator
accumulation_of : Code → ℕ → Accumulation
accumulation_of body d = if not (occurs_otherwise Sum (value_at d) body) then Sum else (if not (occurs_otherwise Least (value_at d) body) then Least else Greatest)

first_kept : (body : Code) (d : ℕ) (p q r : Bool) → occurs_otherwise Sum (value_at d) body ≡ p → occurs_otherwise Least (value_at d) body ≡ q → occurs_otherwise Greatest (value_at d) body ≡ r → (not p || (not q || not r)) ≡ true
    → occurs_otherwise (if not p then Sum else (if not q then Least else Greatest)) (value_at d) body ≡ false
first_kept body d false q r a b c h = a
first_kept body d true false r a b c h = b
first_kept body d true true false a b c h = c
first_kept body d true true true a b c h = cc

occurs_otherwise-accumulation_of : (body : Code) (d : ℕ) → is_accumulator body (value_at d) ≡ true → occurs_otherwise (accumulation_of body d) (value_at d) body ≡ false
unfolding accumulation_of
occurs_otherwise-accumulation_of body d h = first_kept body d (occurs_otherwise Sum (value_at d) body) (occurs_otherwise Least (value_at d) body) (occurs_otherwise Greatest (value_at d) body) refl refl refl h

-- a loop's body inside n loops, and the registers that are live after the loop
module _ (kind : Kind) (F n name : ℕ) (body : Code) (behind : RegisterSet) (e : name ≡ n + 1) (w : IsWellFormed kind F (n + 1) body) (no_first : has_first body ≡ false) (free : IsLoopFree body behind) where
  abbrev turn : List Value → Store → Store
  turn row s = exec body (bind s name row)

  abbrev Has : Effect → Store → Store → Type 0
  Has effect s t = HasEffect (is_accumulator body) (accumulation_of body) effect s t

  -- ---- registers that aren't assigned

  -- a turn doesn't assign a register that is live before a turn or after the loop, unless it is an accumulator
  not_assigned : (r : Register) → is_accumulator body r ≡ false → (is_live body r false ≡ true) ⊎ (behind r ≡ true) → is_assigned body r ≡ false
  not_assigned r other h = false_from_ne_true (is_assigned body r) (λ i. elim (or_cases (is_accumulator body r) (is_local body behind r) (free r i)) as (λ _. ⊥) [
    | inl p ↦ both_ways (is_accumulator body r) other p
    | inr p ↦
        let q = and_parts (not (is_live body r false)) (not (behind r)) p in
        elim h as (λ _. ⊥) [
          | inl v ↦ both_ways (is_live body r false) (not-true (is_live body r false) q.0) v
          | inr v ↦ both_ways (behind r) (not-true (behind r) q.1) v
        ]
  ])

  -- the registers that a turn reads, and those that are live at the end of each turn, both without the accumulators
  abbrev read : RegisterSet
  read r = live body no_registers r && not (is_accumulator body r)

  abbrev lasting : RegisterSet
  lasting r = live_at_end body behind r && not (is_accumulator body r)

  read-not_assigned : (r : Register) → read r ≡ true → is_assigned body r ≡ false
  read-not_assigned r i =
      let p = and_parts (live body no_registers r) (not (is_accumulator body r)) i in
      not_assigned r (not-true (is_accumulator body r) p.1) (inl p.0)

  lasting-not_assigned : (r : Register) → lasting r ≡ true → is_assigned body r ≡ false
  lasting-not_assigned r i =
      let p = and_parts (live_at_end body behind r) (not (is_accumulator body r)) i in
      not_assigned r (not-true (is_accumulator body r) p.1) (elim (or_cases (behind r) (live body behind r) p.0) as (λ _. (is_live body r false ≡ true) ⊎ (behind r ≡ true)) [
        | inl v ↦ inr v
        | inr v ↦ is_live-from body r (behind r) v
      ])

  read-kept : (s : Store) (row : List Value) → IsWhole n s → Agree n read s (turn row s)
  read-kept s row h = exec_turn-kept read kind F body n name s row e w read-not_assigned h

  lasting-kept : (s : Store) (row : List Value) → IsWhole n s → Agree n lasting s (turn row s)
  lasting-kept s row h = exec_turn-kept lasting kind F body n name s row e w lasting-not_assigned h

  -- ---- effects

  -- a turn has the same effect whether or not another turn came before it
  turn-same : (s : Store) (first row : List Value) → IsWhole n s
      → HaveSameEffect (is_accumulator body) (accumulation_of body) (n + 1) no_registers (bind s name row) (bind (turn first s) name row) (turn row s) (turn row (turn first s))
  turn-same s first row h =
      exec-same (is_accumulator body) (accumulation_of body) (λ k. refl) kind F body (n + 1) no_registers (bind s name row) (bind (turn first s) name row) w no_first
      (occurs_otherwise-accumulation_of body) (sym (input-exec body (bind s name first)))
      (Agree-bind n name read s (turn first s) row e (read-kept s first h))

  unbound : (effect : Effect) (s : Store) (row : List Value) (t : Store) → Has effect (bind s name row) t → Has effect s t
  unbound effect s row t h = record { emitted = h.emitted; taken = h.taken }

  -- ---- two turns, in either order

  -- turn a and then turn b; turn b and then turn a
  abbrev this_way : Store → List Value → List Value → Store
  this_way s a b = turn b (turn a s)

  swapped : (s : Store) (a b : List Value) (ea eb : Effect) → Has ea s (turn a s) → Has eb (turn a s) (this_way s a b) → Has eb s (turn b s) → Has ea (turn b s) (this_way s b a) → IsWhole n s
      → Agree n (live_at_end body behind) (this_way s a b) (this_way s b a) × Perm (this_way s a b).emitted (this_way s b a).emitted
  swapped s a b ea eb first then_b second then_a h =
      let du = HasEffect-both (is_accumulator body) (accumulation_of body) first then_b in
      let dv = HasEffect-both (is_accumulator body) (accumulation_of body) second then_a in
      let ka = lasting-kept s a h in
      let kb = lasting-kept s b h in
      let ku = Agree-chained ka (lasting-kept (turn a s) b ka.other) in
      let kv = Agree-chained kb (lasting-kept (turn b s) a kb.other) in
      let same = Agree-chained (Agree-turned ku) kv in (
        record {
          own = same.own;
          other = same.other;
          fields = same.fields;
          inputs = same.inputs;
          loops = same.loops;
          values = λ k i. elim (cases_Bool (is_accumulator body (value_at k))) as (λ _. value_in (this_way s a b) k ≡ value_in (this_way s b a) k) [
            | inl v ↦ du.taken k v ∙ accumulated-perm (accumulation_of body k) (crossed_over (ea.operands k) (eb.operands k)) (value_in s k) ∙ sym (dv.taken k v)
            | inr v ↦ same.values k (and_from (live_at_end body behind (value_at k)) (not (is_accumulator body (value_at k))) i (not_from_false (is_accumulator body (value_at k)) v))
          ];
          records = λ k i. same.records k (and_from (live_at_end body behind (record_at k)) (not false) i refl);
        },
        chains (is_same du.emitted) (chains (before s.emitted (crossed_over ea.emits eb.emits)) (is_same (sym dv.emitted))),
      )

  pub turns-swapped : (s : Store) (a b : List Value) → IsWhole n s
      → Agree n (live_at_end body behind) (turn b (turn a s)) (turn a (turn b s)) × Perm (turn b (turn a s)).emitted (turn a (turn b s)).emitted
  turns-swapped s a b h =
      let tb = turn-same s a b h in
      let ta = turn-same s b a h in
      swapped s a b ta.effect tb.effect (unbound ta.effect s a (turn a s) ta.own) (unbound tb.effect (turn a s) b (this_way s a b) tb.other) (unbound tb.effect s b (turn b s) tb.own)
      (unbound ta.effect (turn b s) a (this_way s b a) ta.other) h
