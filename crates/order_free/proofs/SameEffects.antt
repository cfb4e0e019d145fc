-- Two stores with one input agree on all live registers except accumulators. A statement of one line has the same
-- effect on both.
use Rattle.std.proofs.Common.{◌≡◌, ◌<◌, ◌==◌, ◌⊎◌, ℕ, Bool, true, false, not, ◌&&◌, inl, inr, if◌then◌else◌, List, [], ◌∷◌, ◌++◌, refl, sym, ap, subst, ◌∙◌, append-nil}
use Rattle.std.proofs.lemmas.Bool.{cases_Bool, or_cases, or_parts, or_left, or_right, and_cases, and_parts, and_from, both_ways, false_from_ne_true, not-true, not-false, not_from_false, eq-eqb, eqb-true, eqb-false}
use Rattle.pact_record.specs.declared.values.Value.{Value}
use Rattle.pact_record.specs.Operations.{applied2}
use Rattle.tac_syntax.specs.declared.functions.Kind.{Kind}
use Rattle.tac_syntax.specs.Limits.{value_registers}
use Rattle.tac_syntax.specs.Code.{Simple, apply_two}
use Rattle.tac_syntax.specs.Call.{Store, value_in, put_value, after}
use Rattle.tac_syntax.specs.WellFormed.{IsWellFormedSimple}
use Rattle.tac_syntax.proofs.StepsAsRecursion.{input-after}
use Rattle.order_free.specs.declared.accumulators.Accumulation.{Accumulation}
use Rattle.order_free.specs.Registers.{Register, value_at, record_at, RegisterSet, has_operand, assigns, occurs, reads_first}
use Rattle.order_free.specs.Accumulators.{op_of, accumulates, is_used_otherwise}
use Rattle.order_free.proofs.Accumulated.{accumulated}
use Rattle.order_free.proofs.AgreeingStores.{IsWhole, Agree, Agree-chained, Agree-fewer, Agree-turned, value_in-put, value_in-put_other}
use Rattle.order_free.proofs.KeptRegisters.{after-kept}
use Rattle.order_free.proofs.AgreeAfter.{live_before, live_before-operand, after-agree, emitted_by, emitted-after, emitted_by-agree}
use Rattle.order_free.proofs.Effects.{Effect, both, no_effect, HasEffect, HasEffect-none, HasEffect-both, IsAccumulating, accumulating, accumulates-is, IsAccumulating-assigns}

-- the operand for one accumulator
one_operand : ℕ → Value → ℕ → List Value
one_operand d v k = if d == k then v ∷ [] else []

module _ (accumulators : RegisterSet) (by : ℕ → Accumulation) where
  -- the set without the accumulators
  abbrev pub beside : RegisterSet → RegisterSet
  beside set r = set r && not (accumulators r)

  pub beside-fewer : (set fewer : RegisterSet) → ((r : Register) → fewer r ≡ true → set r ≡ true) → (r : Register) → beside fewer r ≡ true → beside set r ≡ true
  beside-fewer set fewer f r e = let p = and_parts (fewer r) (not (accumulators r)) e in and_from (set r) (not (accumulators r)) (f r p.0) p.1

  -- One effect leads from s to u and from t to v, and u and v agree on the set without the accumulators.
  pub record HaveSameEffect (n : ℕ) (set : RegisterSet) (s t u v : Store) : Type 0 where
    pub effect : Effect
    pub own : HasEffect accumulators by effect s u
    pub other : HasEffect accumulators by effect t v
    pub agree : Agree n (beside set) u v
    pub input : u.input ≡ v.input

  pub same-none : (n : ℕ) (set : RegisterSet) (s t : Store) → s.input ≡ t.input → Agree n (beside set) s t → HaveSameEffect n set s t s t
  same-none n set s t e h = record { effect = no_effect; own = HasEffect-none accumulators by s; other = HasEffect-none accumulators by t; agree = h; input = e }

  pub same-chained : {n : ℕ} {set last : RegisterSet} {s t u v p q : Store} → HaveSameEffect n set s t u v → HaveSameEffect n last u v p q → HaveSameEffect n last s t p q
  same-chained h k = record {
    effect = both h.effect k.effect;
    own = HasEffect-both accumulators by h.own k.own;
    other = HasEffect-both accumulators by h.other k.other;
    agree = k.agree;
    input = k.input;
  }

  pub same-fewer : {n : ℕ} (set fewer : RegisterSet) {s t u v : Store} → ((r : Register) → fewer r ≡ true → set r ≡ true) → HaveSameEffect n set s t u v → HaveSameEffect n fewer s t u v
  same-fewer set fewer f h = record { effect = h.effect; own = h.own; other = h.other; agree = Agree-fewer (beside set) (beside fewer) (beside-fewer set fewer f) h.agree; input = h.input }

  -- each accumulator occurs in the statement only as one, with its own operation
  abbrev pub KeepsAccumulators : Simple → Type 0
  KeepsAccumulators a = (d : ℕ) → accumulators (value_at d) ≡ true → is_used_otherwise (by d) (value_at d) a ≡ false

  module _ (values_only : (k : ℕ) → accumulators (record_at k) ≡ false) (kind : Kind) (F : ℕ) where
    -- an accumulator that is an operand is assigned, too
    operand-assigned : (a : Simple) → KeepsAccumulators a → (r : Register) → accumulators r ≡ true → has_operand a r ≡ true → assigns a r ≡ true
    operand-assigned a keeps (value_at d) i h = elim (and_cases (occurs a (value_at d)) (not (accumulates (by d) (value_at d) a)) (keeps d i)) as (λ _. assigns a (value_at d) ≡ true) [
      | inl q ↦ absurd (both_ways (occurs a (value_at d)) q (or_left (has_operand a (value_at d)) (assigns a (value_at d)) h))
      | inr q ↦ IsAccumulating-assigns (by d) d a (accumulates-is (by d) d a (not-false (accumulates (by d) (value_at d) a) q))
    ]
    operand-assigned a keeps (record_at k) i h = absurd (both_ways (accumulators (record_at k)) (values_only k) i)

    -- the registers that are live before a statement, without the accumulators
    beside-live_before : (a : Simple) (set : RegisterSet) → KeepsAccumulators a → ((r : Register) → accumulators r ≡ true → assigns a r ≡ false) → (r : Register) → live_before a (beside set) r ≡ true
        → beside (live_before a set) r ≡ true
    beside-live_before a set keeps spares r i = elim (or_cases (has_operand a r) (beside set r && not (assigns a r)) i) as (λ _. beside (live_before a set) r ≡ true) [
      | inl p ↦
          let free = false_from_ne_true (accumulators r) (λ q. both_ways (assigns a r) (spares r q) (operand-assigned a keeps r q p)) in
          and_from (live_before a set r) (not (accumulators r)) (live_before-operand a set r p) (not_from_false (accumulators r) free)
      | inr p ↦
          let q = and_parts (beside set r) (not (assigns a r)) p in
          let w = and_parts (set r) (not (accumulators r)) q.0 in
          and_from (live_before a set r) (not (accumulators r)) (or_right (has_operand a r) (set r && not (assigns a r)) (and_from (set r) (not (assigns a r)) w.0 q.1)) w.1
    ]

    -- ---- a statement that assigns no accumulator

    same-spared : (a : Simple) (n : ℕ) (set : RegisterSet) (s t : Store) → IsWellFormedSimple kind F n a → reads_first a ≡ false → KeepsAccumulators a
        → ((r : Register) → accumulators r ≡ true → assigns a r ≡ false) → s.input ≡ t.input → Agree n (beside (live_before a set)) s t → HaveSameEffect n set s t (after a s) (after a t)
    same-spared a n set s t w f keeps spares e h =
        let all = Agree-fewer (beside (live_before a set)) (live_before a (beside set)) (beside-live_before a set keeps spares) h in
        record {
          effect = record { emits = emitted_by a s; operands = λ d. [] };
          own = record { emitted = emitted-after a s; taken = λ d i. sym ((after-kept accumulators n s a spares h.own).values d i) };
          other = record {
            emitted = emitted-after a t ∙ ap (λ (l : List (List Value)). t.emitted ++ l) (sym (emitted_by-agree a n (beside set) s t all));
            taken = λ d i. sym ((after-kept accumulators n t a spares h.other).values d i);
          };
          agree = after-agree kind F n (beside set) s t a w f all;
          input = input-after a s ∙ e ∙ sym (input-after a t);
        }

    -- ---- a statement of an accumulator

    HasEffect-one : (n d c : ℕ) (s : Store) (v : Value) → d < value_registers → IsWhole n s → value_in s c ≡ v
        → HasEffect accumulators by (record { emits = []; operands = one_operand d v }) s (after (apply_two d (op_of (by d)) d c) s)
    unfolding one_operand
    HasEffect-one n d c s v lt h e = record { emitted = sym (append-nil s.emitted); taken = λ k _. at k } where
      w : Value
      w = applied2 (op_of (by d)) (value_in s d) (value_in s c)

      at : (k : ℕ) → value_in (put_value s d w) k ≡ accumulated (by k) (value_in s k) (if d == k then v ∷ [] else [])
      at k = elim (cases_Bool (d == k)) as (λ _. value_in (put_value s d w) k ≡ accumulated (by k) (value_in s k) (if d == k then v ∷ [] else [])) [
        | inl p ↦ subst (λ (b : Bool). value_in (put_value s d w) k ≡ accumulated (by k) (value_in s k) (if b then v ∷ [] else [])) (sym p)
            (subst (λ (j : ℕ). value_in (put_value s d w) j ≡ applied2 (op_of (by j)) (value_in s j) v) (eqb-true d k p)
            (value_in-put n s d w h lt ∙ ap (applied2 (op_of (by d)) (value_in s d)) e))
        | inr p ↦ subst (λ (b : Bool). value_in (put_value s d w) k ≡ accumulated (by k) (value_in s k) (if b then v ∷ [] else [])) (sym p)
            (value_in-put_other s d w k (λ (q : k ≡ d). eqb-false d k p (sym q)))
      ]

    same-accumulating : (a : Simple) (d n : ℕ) (set : RegisterSet) (s t : Store) → IsAccumulating (by d) d a → accumulators (value_at d) ≡ true → IsWellFormedSimple kind F n a → KeepsAccumulators a
        → s.input ≡ t.input → Agree n (beside (live_before a set)) s t → HaveSameEffect n set s t (after a s) (after a t)
    same-accumulating _ d n set s t (accumulating _ c apart) i w keeps e h = record {
      effect = record { emits = []; operands = one_operand d (value_in s c) };
      own = HasEffect-one n d c s (value_in s c) w.0 h.own refl;
      other = HasEffect-one n d c t (value_in s c) w.0 h.other (sym same_operand);
      agree = Agree-chained (Agree-turned (after-kept (beside set) n s a spares h.own))
          (Agree-chained (Agree-fewer (beside (live_before a set)) (beside set) stays h) (after-kept (beside set) n t a spares h.other));
      input = e;
    } where
      a : Simple
      a = apply_two d (op_of (by d)) d c

      read : has_operand a (value_at c) ≡ true
      read = or_right (c == d) (c == c) (eq-eqb c c refl)

      free : accumulators (value_at c) ≡ false
      free = false_from_ne_true (accumulators (value_at c)) (λ q. apart (sym (eqb-true c d (operand-assigned a keeps (value_at c) q read))))

      same_operand : value_in s c ≡ value_in t c
      same_operand = h.values c (and_from (live_before a set (value_at c)) (not (accumulators (value_at c))) (live_before-operand a set (value_at c) read) (not_from_false (accumulators (value_at c)) free))

      -- the assigned register is an accumulator
      spares : (r : Register) → beside set r ≡ true → assigns a r ≡ false
      spares (value_at k) j =
          let p = and_parts (set (value_at k)) (not (accumulators (value_at k))) j in
          false_from_ne_true (k == d) (λ z. both_ways (accumulators (value_at k)) (not-true (accumulators (value_at k)) p.1) (subst (λ (x : ℕ). accumulators (value_at x) ≡ true) (sym (eqb-true k d z)) i))
      spares (record_at k) j = refl

      stays : (r : Register) → beside set r ≡ true → beside (live_before a set) r ≡ true
      stays r j =
          let p = and_parts (set r) (not (accumulators r)) j in
          and_from (live_before a set r) (not (accumulators r)) (or_right (has_operand a r) (set r && not (assigns a r)) (and_from (set r) (not (assigns a r)) p.0 (not_from_false (assigns a r) (spares r j)))) p.1

    -- ---- a statement of any kind

    unmentioned : (a : Simple) → ((d : ℕ) → accumulates (by d) (value_at d) a ≡ false) → KeepsAccumulators a → (r : Register) → accumulators r ≡ true → assigns a r ≡ false
    unmentioned a other keeps (value_at d) i = elim (and_cases (occurs a (value_at d)) (not (accumulates (by d) (value_at d) a)) (keeps d i)) as (λ _. assigns a (value_at d) ≡ false) [
      | inl q ↦ (or_parts (has_operand a (value_at d)) (assigns a (value_at d)) q).1
      | inr q ↦ absurd (both_ways (accumulates (by d) (value_at d) a) (other d) (not-false (accumulates (by d) (value_at d) a) q))
    ]
    unmentioned a other keeps (record_at k) i = absurd (both_ways (accumulators (record_at k)) (values_only k) i)

    -- a statement assigns no accumulator, or accumulates into one
    either : (a : Simple) → KeepsAccumulators a → ((r : Register) → accumulators r ≡ true → assigns a r ≡ false) ⊎ ((d : ℕ) × (accumulators (value_at d) ≡ true) × IsAccumulating (by d) d a)
    either (apply_two to op b c) keeps = elim (cases_Bool (accumulators (value_at to))) [
      | inl i ↦ inr (to, i, accumulates-is (by to) to a (its_own i))
      | inr i ↦ inl (spared i)
    ] where
      a : Simple
      a = apply_two to op b c

      its_own : accumulators (value_at to) ≡ true → accumulates (by to) (value_at to) a ≡ true
      its_own i = elim (and_cases (occurs a (value_at to)) (not (accumulates (by to) (value_at to) a)) (keeps to i)) as (λ _. accumulates (by to) (value_at to) a ≡ true) [
        | inl q ↦ absurd (both_ways (occurs a (value_at to)) q (or_right (has_operand a (value_at to)) (to == to) (eq-eqb to to refl)))
        | inr q ↦ not-false (accumulates (by to) (value_at to) a) q
      ]

      spared : accumulators (value_at to) ≡ false → (r : Register) → accumulators r ≡ true → assigns a r ≡ false
      spared i (value_at d) j = false_from_ne_true (d == to) (λ z. both_ways (accumulators (value_at d)) (subst (λ (x : ℕ). accumulators (value_at x) ≡ false) (sym (eqb-true d to z)) i) j)
      spared i (record_at k) j = refl
    either a keeps = inl (unmentioned a (λ d. refl) keeps)

    pub after-same : (a : Simple) (n : ℕ) (set : RegisterSet) (s t : Store) → IsWellFormedSimple kind F n a → reads_first a ≡ false → KeepsAccumulators a
        → s.input ≡ t.input → Agree n (beside (live_before a set)) s t → HaveSameEffect n set s t (after a s) (after a t)
    after-same a n set s t w f keeps e h = elim (either a keeps) as (λ _. HaveSameEffect n set s t (after a s) (after a t)) [
      | inl spares ↦ same-spared a n set s t w f keeps spares e h
      | inr q ↦ same-accumulating a q.0 n set s t q.2 q.1 w keeps e h
    ]
