-- A body has the same effect on two stores with one input that agree on all live registers except its accumulators.
use Rattle.std.proofs.Common.{◌≡◌, ◌==◌, ◌+◌, ℕ, zero, suc, Bool, true, false, not, ◌||◌, if◌then◌else◌, List, [], ◌∷◌, refl, subst, arith}
use Rattle.std.proofs.lemmas.Bool.{or_parts, and_from, both_ways, false_from_ne_true, not_from_false, eq-eqb}
use Rattle.pact_record.specs.declared.values.Value.{Value}
use Rattle.pact_record.specs.Value.{is_true}
use Rattle.tac_syntax.specs.declared.functions.Kind.{Kind}
use Rattle.tac_syntax.specs.Code.{Code, stop, plain, branch, again, each}
use Rattle.tac_syntax.specs.Call.{CallInput, Store, value_in, bind, after, rows_of}
use Rattle.tac_syntax.specs.Exec.{times, for_each, exec}
use Rattle.tac_syntax.specs.WellFormed.{IsWellFormed}
use Rattle.order_free.specs.declared.accumulators.Accumulation.{Accumulation}
use Rattle.order_free.specs.Registers.{Register, value_at, record_at, RegisterSet, reads_first, has_first}
use Rattle.order_free.specs.Liveness.{live, live_at_end}
use Rattle.order_free.specs.Accumulators.{is_used_otherwise, occurs_otherwise}
use Rattle.order_free.proofs.LiveSets.{live-first_turn, live-at_end, live_at_end-behind, live-test, live-body, live-other}
use Rattle.order_free.proofs.AgreeingStores.{Agree, Agree-fewer, Agree-bind, Agree-outside}
use Rattle.order_free.proofs.SameEffects.{beside, beside-fewer, HaveSameEffect, same-none, same-chained, same-fewer, after-same}

module _ (accumulators : RegisterSet) (by : ℕ → Accumulation) where
  abbrev Same : ℕ → RegisterSet → Store → Store → Store → Store → Type 0
  Same n set s t u v = HaveSameEffect accumulators by n set s t u v

  abbrev AgreeBeside : ℕ → RegisterSet → Store → Store → Type 0
  AgreeBeside n set s t = Agree n (beside accumulators by set) s t

  agree-fewer : {n : ℕ} (set fewer : RegisterSet) {s t : Store} → ((r : Register) → fewer r ≡ true → set r ≡ true) → AgreeBeside n set s t → AgreeBeside n fewer s t
  agree-fewer set fewer f h = Agree-fewer (beside accumulators by set) (beside accumulators by fewer) (beside-fewer accumulators by set fewer f) h

  -- ---- turns

  either-same : (n : ℕ) (set : RegisterSet) (s t : Store) (b : Bool) (u v p q : Store) → Same n set s t u v → Same n set s t p q → Same n set s t (if b then u else p) (if b then v else q)
  either-same n set s t true u v p q h k = h
  either-same n set s t false u v p q h k = k

  times-same : (n : ℕ) (set : RegisterSet) (f : Store → Store) → ((s t : Store) → s.input ≡ t.input → AgreeBeside n set s t → Same n set s t (f s) (f t)) → (k : ℕ) (s t : Store) → s.input ≡ t.input
      → AgreeBeside n set s t → Same n set s t (times k f s) (times k f t)
  times-same n set f turn zero s t e h = same-none accumulators by n set s t e h
  times-same n set f turn (suc k) s t e h = let p = turn s t e h in same-chained accumulators by p (times-same n set f turn k (f s) (f t) p.input p.agree)

  turn-same : (n name : ℕ) (set : RegisterSet) (s t u v : Store) (row : List Value) → Same (n + 1) set (bind s name row) (bind t name row) u v → Same n set s t u v
  turn-same n name set s t u v row h = record {
    effect = h.effect;
    own = record { emitted = h.own.emitted; taken = h.own.taken };
    other = record { emitted = h.other.emitted; taken = h.other.taken };
    agree = Agree-outside n (beside accumulators by set) u v h.agree;
    input = h.input;
  }

  for_each-same : (n name : ℕ) (set : RegisterSet) (f : Store → Store) → name ≡ n + 1
      → ((s t : Store) → s.input ≡ t.input → AgreeBeside (n + 1) set s t → Same (n + 1) set s t (f s) (f t))
      → (rows : List (List Value)) (s t : Store) → s.input ≡ t.input → AgreeBeside n set s t → Same n set s t (for_each name rows f s) (for_each name rows f t)
  for_each-same n name set f q turn [] s t e h = same-none accumulators by n set s t e h
  for_each-same n name set f q turn (row ∷ rows) s t e h =
      let inside = turn (bind s name row) (bind t name row) e (Agree-bind n name (beside accumulators by set) s t row q h) in
      let p = turn-same n name set s t (f (bind s name row)) (f (bind t name row)) row inside in
      same-chained accumulators by p (for_each-same n name set f q turn rows (f (bind s name row)) (f (bind t name row)) p.input p.agree)

  -- ---- bodies

  -- each accumulator occurs in the body only as one, with its own operation
  abbrev KeepsAll : Code → Type 0
  KeepsAll c = (d : ℕ) → accumulators (value_at d) ≡ true → occurs_otherwise (by d) (value_at d) c ≡ false

  -- the condition of an `if` isn't an accumulator
  condition : (on : ℕ) (body other next : Code) → KeepsAll (branch on body other next) → accumulators (value_at on) ≡ false
  condition on body other next keeps = false_from_ne_true (accumulators (value_at on)) (λ i.
      let rest = occurs_otherwise (by on) (value_at on) body || (occurs_otherwise (by on) (value_at on) other || occurs_otherwise (by on) (value_at on) next) in
      both_ways (on == on) (or_parts (on == on) rest (keeps on i)).0 (eq-eqb on on refl))

  module _ (values_only : (k : ℕ) → accumulators (record_at k) ≡ false) (kind : Kind) (F : ℕ) where
    pub exec-same : (c : Code) (n : ℕ) (set : RegisterSet) (s t : Store) → IsWellFormed kind F n c → has_first c ≡ false → KeepsAll c → s.input ≡ t.input
        → Agree n (beside accumulators by (live c set)) s t → HaveSameEffect accumulators by n set s t (exec c s) (exec c t)
    exec-same stop n set s t w f keeps e h = same-none accumulators by n set s t e h
    exec-same (plain a next) n set s t w f keeps e h =
        let g = or_parts (reads_first a) (has_first next) f in
        let k = λ (d : ℕ) (i : accumulators (value_at d) ≡ true). or_parts (is_used_otherwise (by d) (value_at d) a) (occurs_otherwise (by d) (value_at d) next) (keeps d i) in
        let p = after-same accumulators by values_only kind F a n (live next set) s t w.0 g.0 (λ d i. (k d i).0) e h in
        same-chained accumulators by p (exec-same next n set (after a s) (after a t) w.1 g.1 (λ d i. (k d i).1) p.input p.agree)
    exec-same (branch on body other next) n set s t w f keeps e h =
        let Q = live next set in
        let all = live (branch on body other next) set in
        let g = or_parts (has_first body) (has_first other || has_first next) f in
        let g2 = or_parts (has_first other) (has_first next) g.1 in
        let k = λ (d : ℕ) (i : accumulators (value_at d) ≡ true). or_parts (d == on) (occurs_otherwise (by d) (value_at d) body || (occurs_otherwise (by d) (value_at d) other || occurs_otherwise (by d) (value_at d) next)) (keeps d i) in
        let k1 = λ (d : ℕ) (i : accumulators (value_at d) ≡ true). or_parts (occurs_otherwise (by d) (value_at d) body) (occurs_otherwise (by d) (value_at d) other || occurs_otherwise (by d) (value_at d) next) (k d i).1 in
        let k2 = λ (d : ℕ) (i : accumulators (value_at d) ≡ true). or_parts (occurs_otherwise (by d) (value_at d) other) (occurs_otherwise (by d) (value_at d) next) (k1 d i).1 in
        let tested = h.values on (and_from (all (value_at on)) (not (accumulators (value_at on))) (live-test on body other next set) (not_from_false (accumulators (value_at on)) (condition on body other next keeps))) in
        let b = is_true (value_in s on) in
        let p = either-same n Q s t b (exec body s) (exec body t) (exec other s) (exec other t)
        (exec-same body n Q s t w.0 g.0 (λ d i. (k1 d i).0) e (agree-fewer all (live body Q) (live-body on body other next set) h))
        (exec-same other n Q s t w.1 g2.0 (λ d i. (k2 d i).0) e (agree-fewer all (live other Q) (live-other on body other next set) h)) in
        let q = subst (λ (v : Value). Same n Q s t (if b then exec body s else exec other s) (if is_true v then exec body t else exec other t)) tested p in
        same-chained accumulators by q
        (exec-same next n set (if b then exec body s else exec other s) (if is_true (value_in t on) then exec body t else exec other t) w.2 g2.1 (λ d i. (k2 d i).1) q.input q.agree)
    exec-same (again zero body next) n set s t w f keeps e h = absurd (omega (arith, w.0))
    exec-same (again (suc count) body next) n set s t w f keeps e h =
        let Q = live next set in
        let W = live_at_end body Q in
        let g = or_parts (has_first body) (has_first next) f in
        let k = λ (d : ℕ) (i : accumulators (value_at d) ≡ true). or_parts (occurs_otherwise (by d) (value_at d) body) (occurs_otherwise (by d) (value_at d) next) (keeps d i) in
        let turn = λ (u v : Store) (i : u.input ≡ v.input) (m : AgreeBeside n (live body W) u v). exec-same body n W u v w.1 g.0 (λ d j. (k d j).0) i m in
        let p = turn s t e (agree-fewer (live body Q) (live body W) (live-first_turn body Q) h) in
        let q = times-same n W (exec body) (λ u v i m. turn u v i (agree-fewer W (live body W) (live-at_end body Q) m)) count (exec body s) (exec body t) p.input p.agree in
        let all = same-fewer accumulators by W Q (live_at_end-behind body Q) (same-chained accumulators by p q) in
        same-chained accumulators by all
        (exec-same next n set (times count (exec body) (exec body s)) (times count (exec body) (exec body t)) w.2 g.1 (λ d i. (k d i).1) all.input all.agree)
    exec-same (each name list body next) n set s t w f keeps e h =
        let Q = live next set in
        let W = live_at_end body Q in
        let g = or_parts (has_first body) (has_first next) f in
        let k = λ (d : ℕ) (i : accumulators (value_at d) ≡ true). or_parts (occurs_otherwise (by d) (value_at d) body) (occurs_otherwise (by d) (value_at d) next) (keeps d i) in
        let turn = λ (u v : Store) (i : u.input ≡ v.input) (m : AgreeBeside (n + 1) W u v). exec-same body (n + 1) W u v w.2 g.0 (λ d j. (k d j).0) i (agree-fewer W (live body W) (live-at_end body Q) m) in
        let p = for_each-same n name W (exec body) w.0 turn (rows_of s.input list) s t e h in
        let all = same-fewer accumulators by W Q (live_at_end-behind body Q)
        (subst (λ (x : CallInput). Same n W s t (for_each name (rows_of s.input list) (exec body) s) (for_each name (rows_of x list) (exec body) t)) e p) in
        same-chained accumulators by all
        (exec-same next n set (for_each name (rows_of s.input list) (exec body) s) (for_each name (rows_of t.input list) (exec body) t) w.3 g.1 (λ d i. (k d i).1) all.input all.agree)
