-- Tests of all numbers below one.
use Rattle.std.proofs.Common.{◌≡◌, ◌<◌, ◌⊎◌, inl, inr, ℕ, zero, suc, Bool, true, false, refl, sym, subst, arith}
use Rattle.std.proofs.lemmas.Bool.{cases_eq, and_parts, and_from, and_left, and_right}
use Rattle.plan_trees.specs.Senders.{all_below}

pub eq_or : (n k : ℕ) → k < suc n → (k ≡ n) ⊎ (k < n)
eq_or n k h = elim (cases_eq k n) as (λ _. (k ≡ n) ⊎ (k < n)) [ inl e ↦ inl e | inr e ↦ inr (omega arith) ]

pub all_below_none : (n k : ℕ) (test : ℕ → Bool) → k < n → test k ≡ false → all_below n test ≡ false
all_below_none zero k test h e = absurd (omega arith)
all_below_none (suc n) k test h e = elim (eq_or n k h) as (λ _. all_below (suc n) test ≡ false) [
  | inl same ↦ and_left (test n) (all_below n test) (subst (λ (m : ℕ). test m ≡ false) same e)
  | inr less ↦ and_right (test n) (all_below n test) (all_below_none n k test less e)
]

pub all_below_from : (n : ℕ) (test : ℕ → Bool) → ((k : ℕ) → k < n → test k ≡ true) → all_below n test ≡ true
all_below_from zero test h = refl
all_below_from (suc n) test h = and_from (test n) (all_below n test) (h n (omega arith)) (all_below_from n test (λ k less. h k (omega arith)))

pub all_below_at : (n k : ℕ) (test : ℕ → Bool) → k < n → all_below n test ≡ true → test k ≡ true
all_below_at zero k test h e = absurd (omega arith)
all_below_at (suc n) k test h e =
    let parts = and_parts (test n) (all_below n test) e in
    elim (eq_or n k h) as (λ _. test k ≡ true) [
      | inl same ↦ subst (λ (m : ℕ). test m ≡ true) (sym same) parts.0
      | inr less ↦ all_below_at n k test less parts.1
    ]
