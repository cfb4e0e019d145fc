-- A free body keeps two stores in agreement if their inputs differ only in the order inside groups. Both emit the same
-- records, up to order.
use Rattle.std.proofs.Common.{◌≡◌, ◌+◌, ℕ, zero, suc, Bool, true, false, ◌||◌, if◌then◌else◌, List, [], ◌∷◌, sym, subst, arith}
use Rattle.std.proofs.lemmas.Bool.{or_parts}
use Rattle.pact_record.specs.declared.values.Value.{Value}
use Rattle.pact_record.specs.Value.{is_true}
use Rattle.pact_record.proofs.Permutations.{Perm, nothing, keeps, swaps, chains, same, both_parts, is_same}
use Rattle.tac_syntax.specs.declared.functions.Kind.{Kind}
use Rattle.tac_syntax.specs.Code.{Code, stop, plain, branch, again, each}
use Rattle.tac_syntax.specs.Call.{Store, value_in, bind, after, rows_of}
use Rattle.tac_syntax.specs.Exec.{times, for_each, exec}
use Rattle.tac_syntax.specs.WellFormed.{IsWellFormed}
use Rattle.order_free.specs.Registers.{Register, RegisterSet, reads_first, has_first}
use Rattle.order_free.specs.Liveness.{live, live_at_end}
use Rattle.order_free.specs.OrderFree.{AreLoopsFree}
use Rattle.order_free.proofs.LiveSets.{live-first_turn, live-at_end, live_at_end-behind, live-test, live-body, live-other}
use Rattle.order_free.proofs.AgreeingStores.{IsWhole, Agree, Agree-itself, Agree-chained, Agree-fewer, Agree-bind, Agree-outside}
use Rattle.order_free.proofs.AgreeAfter.{after-agree, emitted-after, emitted_by-agree}
use Rattle.order_free.proofs.SwappedTurns.{turns-swapped}

-- two stores agree on a set and emitted the same records, up to order
pub record Along (n : ℕ) (set : RegisterSet) (s t : Store) : Type 0 where
  pub agree : Agree n set s t
  pub emitted : Perm s.emitted t.emitted

Along-itself : (n : ℕ) (set : RegisterSet) (s : Store) → IsWhole n s → Along n set s s
Along-itself n set s h = record { agree = Agree-itself n set s h; emitted = same s.emitted }

Along-chained : {n : ℕ} {set : RegisterSet} {s t u : Store} → Along n set s t → Along n set t u → Along n set s u
Along-chained h k = record { agree = Agree-chained h.agree k.agree; emitted = chains h.emitted k.emitted }

Along-fewer : {n : ℕ} (set fewer : RegisterSet) {s t : Store} → ((r : Register) → fewer r ≡ true → set r ≡ true) → Along n set s t → Along n fewer s t
Along-fewer set fewer f h = record { agree = Agree-fewer set fewer f h.agree; emitted = h.emitted }

-- ---- turns

either-along : (n : ℕ) (set : RegisterSet) (b : Bool) (u v p q : Store) → Along n set u v → Along n set p q → Along n set (if b then u else p) (if b then v else q)
either-along n set true u v p q h k = h
either-along n set false u v p q h k = k

times-along : (n : ℕ) (set : RegisterSet) (f : Store → Store) → ((s t : Store) → Along n set s t → Along n set (f s) (f t)) → (k : ℕ) (s t : Store) → Along n set s t
    → Along n set (times k f s) (times k f t)
times-along n set f turn zero s t h = h
times-along n set f turn (suc k) s t h = times-along n set f turn k (f s) (f t) (turn s t h)

-- a loop each of whose turns keeps two stores in agreement, and two of whose turns may change places
module _ (n name : ℕ) (set : RegisterSet) (f : Store → Store)
    (turn : (row : List Value) (s t : Store) → Along n set s t → Along n set (f (bind s name row)) (f (bind t name row)))
    (swapped : (s : Store) (a b : List Value) → IsWhole n s → Along n set (f (bind (f (bind s name a)) name b)) (f (bind (f (bind s name b)) name a))) where
  for_each-along : (rows : List (List Value)) (s t : Store) → Along n set s t → Along n set (for_each name rows f s) (for_each name rows f t)
  for_each-along [] s t h = h
  for_each-along (row ∷ rows) s t h = for_each-along rows (f (bind s name row)) (f (bind t name row)) (turn row s t h)

  -- the loop over the records in another order
  for_each-reordered : {rows others : List (List Value)} → Perm rows others → (s t : Store) → Along n set s t → Along n set (for_each name rows f s) (for_each name others f t)
  for_each-reordered nothing s t h = h
  for_each-reordered (keeps {x = row} p) s t h = for_each-reordered p (f (bind s name row)) (f (bind t name row)) (turn row s t h)
  for_each-reordered (swaps {x = a} {y = b} {xs = rows}) s t h =
      for_each-along rows (f (bind (f (bind s name a)) name b)) (f (bind (f (bind t name b)) name a))
      (Along-chained (swapped s a b h.agree.own) (turn a (f (bind s name b)) (f (bind t name b)) (turn b s t h)))
  for_each-reordered (chains p q) s t h = Along-chained (for_each-reordered p s s (Along-itself n set s h.agree.own)) (for_each-reordered q s t h)

-- ---- bodies

turn-along : (n name : ℕ) (set : RegisterSet) (f : Store → Store) → name ≡ n + 1 → ((s t : Store) → Along (n + 1) set s t → Along (n + 1) set (f s) (f t))
    → (row : List Value) (s t : Store) → Along n set s t → Along n set (f (bind s name row)) (f (bind t name row))
turn-along n name set f e inside row s t h =
    let p = inside (bind s name row) (bind t name row) (record { agree = Agree-bind n name set s t row e h.agree; emitted = h.emitted }) in
    record { agree = Agree-outside n set (f (bind s name row)) (f (bind t name row)) p.agree; emitted = p.emitted }

along : (n : ℕ) (set : RegisterSet) (s t : Store) → Agree n set s t × Perm s.emitted t.emitted → Along n set s t
along n set s t h = record { agree = h.0; emitted = h.1 }

module _ (kind : Kind) (F : ℕ) where
  pub exec-along : (c : Code) (n : ℕ) (set : RegisterSet) (s t : Store) → IsWellFormed kind F n c → has_first c ≡ false → AreLoopsFree c set → Along n (live c set) s t → Along n set (exec c s) (exec c t)
  exec-along stop n set s t w f free h = h
  exec-along (plain a next) n set s t w f free h =
      let Q = live next set in
      let g = or_parts (reads_first a) (has_first next) f in
      exec-along next n set (after a s) (after a t) w.1 g.1 free (record {
        agree = after-agree kind F n Q s t a w.0 g.0 h.agree;
        emitted = chains (is_same (emitted-after a s)) (chains (both_parts h.emitted (is_same (emitted_by-agree a n Q s t h.agree))) (is_same (sym (emitted-after a t))));
      })
  exec-along (branch on body other next) n set s t w f free h =
      let Q = live next set in
      let all = live (branch on body other next) set in
      let g = or_parts (has_first body) (has_first other || has_first next) f in
      let g2 = or_parts (has_first other) (has_first next) g.1 in
      let tested = h.agree.values on (live-test on body other next set) in
      let b = is_true (value_in s on) in
      let p = either-along n Q b (exec body s) (exec body t) (exec other s) (exec other t)
      (exec-along body n Q s t w.0 g.0 free.0 (Along-fewer all (live body Q) (live-body on body other next set) h))
      (exec-along other n Q s t w.1 g2.0 free.1 (Along-fewer all (live other Q) (live-other on body other next set) h)) in
      let q = subst (λ (v : Value). Along n Q (if b then exec body s else exec other s) (if is_true v then exec body t else exec other t)) tested p in
      exec-along next n set (if b then exec body s else exec other s) (if is_true (value_in t on) then exec body t else exec other t) w.2 g2.1 free.2 q
  exec-along (again zero body next) n set s t w f free h = absurd (omega (arith, w.0))
  exec-along (again (suc count) body next) n set s t w f free h =
      let Q = live next set in
      let W = live_at_end body Q in
      let g = or_parts (has_first body) (has_first next) f in
      let turn = λ (u v : Store) (k : Along n (live body W) u v). exec-along body n W u v w.1 g.0 free.0 k in
      let p = turn s t (Along-fewer (live body Q) (live body W) (live-first_turn body Q) h) in
      let q = times-along n W (exec body) (λ u v k. turn u v (Along-fewer W (live body W) (live-at_end body Q) k)) count (exec body s) (exec body t) p in
      exec-along next n set (times count (exec body) (exec body s)) (times count (exec body) (exec body t)) w.2 g.1 free.1 (Along-fewer W Q (live_at_end-behind body Q) q)
  exec-along (each name list body next) n set s t w f free h =
      let Q = live next set in
      let W = live_at_end body Q in
      let g = or_parts (has_first body) (has_first next) f in
      let turn = turn-along n name W (exec body) w.0 (λ u v k. exec-along body (n + 1) W u v w.2 g.0 free.1 (Along-fewer W (live body W) (live-at_end body Q) k)) in
      let swapped = λ (u : Store) (a b : List Value) (whole : IsWhole n u).
      along n W (exec body (bind (exec body (bind u name a)) name b)) (exec body (bind (exec body (bind u name b)) name a)) (turns-swapped kind F n name body Q w.0 w.2 g.0 free.0 u a b whole) in
      let p = for_each-reordered n name W (exec body) turn swapped (h.agree.inputs.rows list) s t h in
      exec-along next n set (for_each name (rows_of s.input list) (exec body) s) (for_each name (rows_of t.input list) (exec body) t) w.3 g.1 free.2 (Along-fewer W Q (live_at_end-behind body Q) p)
