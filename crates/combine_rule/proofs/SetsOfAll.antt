-- Sets that have each field below a number.
use Rattle.std.proofs.Common.{◌≡◌, ◌≢◌, ◌<◌, ◌==◌, ◌&&◌, inl, inr, ℕ, zero, suc, Bool, true, false, refl, sym, subst, arith}
use Rattle.std.proofs.lemmas.Bool.{and_parts, cases_Bool, both_ways, eqb-true, eq-eqb}
use Rattle.combine_rule.specs.Tests.{has_all}

both : (a b : Bool) → a ≡ true → b ≡ true → (a && b) ≡ true
both true b p q = q
both false b p q = cc

module _ (set : ℕ → Bool) where
  pub all_have : (n : ℕ) → has_all n set ≡ true → (k : ℕ) → k < n → set k ≡ true
  all_have zero h k lt = absurd (omega (arith, lt))
  all_have (suc n) h k lt =
      let p = and_parts (set n) (has_all n set) h in
      elim (cases_Bool (n == k)) as (λ _. set k ≡ true) [
        | inl e ↦ subst (λ (j : ℕ). set j ≡ true) (eqb-true n k e) p.0
        | inr e ↦ all_have n p.1 k (below n k lt (λ z. both_ways (n == k) e (eq-eqb n k z)))
      ] where
        below : (x y : ℕ) → y < suc x → x ≢ y → y < x
        below x y le ne = omega (arith, le, ne)

  pub have_all : (n : ℕ) → ((k : ℕ) → k < n → set k ≡ true) → has_all n set ≡ true
  have_all zero h = refl
  have_all (suc n) h = both (set n) (has_all n set) (h n (omega arith)) (have_all n (λ k lt. h k (omega (arith, lt))))

  -- ---- one field at a time

  pub all_next : (n m : ℕ) → m ≡ suc n → set n ≡ true → has_all n set ≡ true → has_all m set ≡ true
  all_next n m e here h = subst (λ (j : ℕ). has_all j set ≡ true) (sym e) (both (set n) (has_all n set) here h)

  pub all_but : (n k : ℕ) → k < n → set k ≡ false → has_all n set ≡ false
  all_but n k lt h = elim (cases_Bool (has_all n set)) as (λ _. has_all n set ≡ false) [
    | inl e ↦ absurd (both_ways (set k) h (all_have n e k lt))
    | inr e ↦ e
  ]
