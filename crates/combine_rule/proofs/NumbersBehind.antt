-- If a register's last assignment in a body is a 64-bit number, outside every block, the register holds one after the
-- body.
use Rattle.std.proofs.Common.{◌≡◌, ◌<◌, ◌==◌, ℕ, ℤ, pos, Bool, true, false, not, ◌&&◌, ◌||◌, if◌then◌else◌, refl, sym, ap, subst, ◌∙◌}
use Rattle.std.proofs.lemmas.Bool.{and_parts, or_parts, not-true, eq-eqb, eqb-true}
use Rattle.std.proofs.lemmas.Bool.Decides.{Decides-int_eq}
use Rattle.std.proofs.Math.IntN.{+ℤ_idr}
use Rattle.std.specs.Int.{w64, int_wrap}
use Rattle.pact_record.specs.declared.values.Value.{Value}
use Rattle.pact_record.specs.declared.values.Value.TheVariants.{Int}
use Rattle.pact_record.specs.Operations.{applied2}
use Rattle.tac_syntax.specs.declared.functions.Kind.{Kind}
use Rattle.tac_syntax.specs.Limits.{value_registers}
use Rattle.tac_syntax.specs.Code.{Simple, load_int, load_text, load_null, move_value, get_field, get_at, get_key, apply_one, apply_two, new_record, copy_record, set_field, set_at, emit_record, Code, stop, plain, branch, again, each}
use Rattle.tac_syntax.specs.Call.{Store, value_in, after}
use Rattle.tac_syntax.specs.Exec.{exec}
use Rattle.tac_syntax.specs.WellFormed.{IsWellFormed}
use Rattle.order_free.specs.declared.accumulators.Accumulation.TheVariants.{Sum}
use Rattle.order_free.specs.Accumulators.{op_of}
use Rattle.order_free.specs.Registers.{Register, value_at, record_at, RegisterSet, is_value, assigns, is_assigned}
use Rattle.order_free.proofs.AgreeingStores.{IsWhole, value_in-put}
use Rattle.order_free.proofs.KeptRegisters.{after-kept, exec-kept}
use Rattle.combine_rule.specs.Combinable.{is_i64, number_after, is_number_behind}

-- a value that doesn't change when 0 is added
abbrev pub IsNumber : Value → Type 0
IsNumber v = applied2 (op_of Sum) v (Int (pos 0)) ≡ v

number_is : (z : ℤ) → is_i64 z ≡ true → IsNumber (Int z)
number_is z h = ap Int (ap (int_wrap w64) (+ℤ_idr z) ∙ (Decides-int_eq (int_wrap w64 z) z).0 h)

-- the set of one value register
abbrev only : ℕ → RegisterSet
only d r = is_value d r

only_is : (d : ℕ) (P : Register → Type 0) → P (value_at d) → (r : Register) → only d r ≡ true → P r
only_is d P h (value_at k) e = subst (λ (j : ℕ). P (value_at j)) (sym (eqb-true k d e)) h
only_is d P h (record_at k) e = cc

module _ (kind : Kind) (F d : ℕ) (below : d < value_registers) where
  kept : (c : Code) (n : ℕ) (s : Store) → IsWellFormed kind F n c → is_assigned c (value_at d) ≡ false → IsWhole n s → value_in s d ≡ value_in (exec c s) d
  kept c n s w free h = (exec-kept (only d) kind F c n s w (only_is d (λ r. is_assigned c r ≡ false) free) h).values d (eq-eqb d d refl)

  kept_after : (a : Simple) (n : ℕ) (s : Store) → assigns a (value_at d) ≡ false → IsWhole n s → value_in s d ≡ value_in (after a s) d
  kept_after a n s free h = (after-kept (only d) n s a (only_is d (λ r. assigns a r ≡ false) free) h).values d (eq-eqb d d refl)

  number_through : (a : Simple) (n : ℕ) (s : Store) (so : Bool) → IsWhole n s → (so ≡ true → IsNumber (value_in s d)) → (so && not (assigns a (value_at d))) ≡ true → IsNumber (value_in (after a s) d)
  number_through a n s so h held e =
      let q = and_parts so (not (assigns a (value_at d))) e in
      subst IsNumber (kept_after a n s (not-true (assigns a (value_at d)) q.1) h) (held q.0)

  loaded : (to : ℕ) (v : ℤ) (n : ℕ) (s : Store) (so b : Bool) → (d == to) ≡ b → IsWhole n s → (so ≡ true → IsNumber (value_in s d)) → (if b then is_i64 v else so) ≡ true → IsNumber (value_in (after (load_int to v) s) d)
  loaded to v n s so true e h held q =
      subst (λ (k : ℕ). IsNumber (value_in (after (load_int k v) s) d)) (eqb-true d to e) (subst IsNumber (sym (value_in-put n s d (Int v) h below)) (number_is v q))
  loaded to v n s so false e h held q = subst IsNumber (kept_after (load_int to v) n s e h) (held q)

  number_after-is : (a : Simple) (n : ℕ) (s : Store) (so : Bool) → IsWhole n s → (so ≡ true → IsNumber (value_in s d)) → number_after a d so ≡ true → IsNumber (value_in (after a s) d)
  number_after-is (load_int to v) n s so h held e = loaded to v n s so (d == to) refl h held e
  number_after-is (load_text to bytes) n s so h held e = number_through (load_text to bytes) n s so h held e
  number_after-is (load_null to) n s so h held e = number_through (load_null to) n s so h held e
  number_after-is (move_value to from) n s so h held e = number_through (move_value to from) n s so h held e
  number_after-is (get_field to from field) n s so h held e = number_through (get_field to from field) n s so h held e
  number_after-is (get_at to from at) n s so h held e = number_through (get_at to from at) n s so h held e
  number_after-is (get_key to at) n s so h held e = number_through (get_key to at) n s so h held e
  number_after-is (apply_one to op b) n s so h held e = number_through (apply_one to op b) n s so h held e
  number_after-is (apply_two to op b c) n s so h held e = number_through (apply_two to op b c) n s so h held e
  number_after-is (new_record to) n s so h held e = number_through (new_record to) n s so h held e
  number_after-is (copy_record to from) n s so h held e = number_through (copy_record to from) n s so h held e
  number_after-is (set_field to field v) n s so h held e = number_through (set_field to field v) n s so h held e
  number_after-is (set_at to at v) n s so h held e = number_through (set_at to at v) n s so h held e
  number_after-is (emit_record from) n s so h held e = number_through (emit_record from) n s so h held e

  none_of : (a b : Bool) → a ≡ false → b ≡ false → (a || b) ≡ false
  none_of true b x y = cc
  none_of false b x y = y

  -- the body of one block, which doesn't assign the register
  block_kept : (c : Code) (n : ℕ) (s : Store) (so : Bool) → IsWellFormed kind F n c → is_assigned c (value_at d) ≡ false → IsWhole n s → (so ≡ true → IsNumber (value_in s d)) → so ≡ true → IsNumber (value_in (exec c s) d)
  block_kept c n s so w free h held e = subst IsNumber (kept c n s w free h) (held e)

  pub number_behind : (c : Code) (n : ℕ) (s : Store) (so : Bool) → IsWellFormed kind F n c → IsWhole n s → (so ≡ true → IsNumber (value_in s d)) → is_number_behind c d so ≡ true → IsNumber (value_in (exec c s) d)
  number_behind stop n s so w h held e = held e
  number_behind (plain a next) n s so w h held e =
      number_behind next n (after a s) (number_after a d so) w.1 (after-kept (λ r. false) n s a (λ r x. cc) h).other (number_after-is a n s so h held) e
  number_behind (branch on body other next) n s so w h held e =
      let block = branch on body other stop in
      let own = λ (q : (so && not (is_assigned body (value_at d) || is_assigned other (value_at d))) ≡ true).
      let z = and_parts so (not (is_assigned body (value_at d) || is_assigned other (value_at d))) q in
      let y = or_parts (is_assigned body (value_at d)) (is_assigned other (value_at d)) (not-true (is_assigned body (value_at d) || is_assigned other (value_at d)) z.1) in
      block_kept block n s so (w.0, w.1, tt, w.3) (none_of (is_assigned body (value_at d)) (is_assigned other (value_at d) || false) y.0 (none_of (is_assigned other (value_at d)) false y.1 refl)) h held z.0 in
      number_behind next n (exec block s) (so && not (is_assigned body (value_at d) || is_assigned other (value_at d))) w.2
      (exec-kept (λ r. false) kind F block n s (w.0, w.1, tt, w.3) (λ r x. cc) h).other own e
  number_behind (again count body next) n s so w h held e =
      let block = again count body stop in
      let own = λ (q : (so && not (is_assigned body (value_at d))) ≡ true).
      let z = and_parts so (not (is_assigned body (value_at d))) q in
      block_kept block n s so (w.0, w.1, tt) (none_of (is_assigned body (value_at d)) false (not-true (is_assigned body (value_at d)) z.1) refl) h held z.0 in
      number_behind next n (exec block s) (so && not (is_assigned body (value_at d))) w.2 (exec-kept (λ r. false) kind F block n s (w.0, w.1, tt) (λ r x. cc) h).other own e
  number_behind (each name list body next) n s so w h held e =
      let block = each name list body stop in
      let own = λ (q : (so && not (is_assigned body (value_at d))) ≡ true).
      let z = and_parts so (not (is_assigned body (value_at d))) q in
      block_kept block n s so (w.0, w.1, w.2, tt, w.4) (none_of (is_assigned body (value_at d)) false (not-true (is_assigned body (value_at d)) z.1) refl) h held z.0 in
      number_behind next n (exec block s) (so && not (is_assigned body (value_at d))) w.3 (exec-kept (λ r. false) kind F block n s (w.0, w.1, w.2, tt, w.4) (λ r x. cc) h).other own e
