-- The fields of a set, in rising order.
use Rattle.std.proofs.Common.{◌≡◌, ◌<◌, ◌≤◌, ◌+◌, ◌==◌, inl, inr, ℕ, zero, suc, Bool, true, false, cond, List, [], ◌∷◌, length, refl, sym, subst, arith}
use Rattle.std.specs.List.{AllByRecursion, list_any}
use Rattle.std.proofs.lemmas.Bool.{cases_Bool, eq-eqb, eqb-true, or_cases, or_left, or_right, true≢false}
use Rattle.pact_record.specs.Keys.{is_listed}
use Rattle.tac_syntax.specs.Contexts.{FieldSet}
use Rattle.prune_fields.specs.KeepFunctions.{members_from}

all_if : (P : ℕ → Type 0) (b : Bool) (at : ℕ) (rest : List ℕ) → (b ≡ true → P at) → AllByRecursion P rest → AllByRecursion P (cond b (at ∷ rest) rest)
all_if P true at rest h g = (h refl, g)
all_if P false at rest h g = g

pub members-below : (s : FieldSet) (at count bound : ℕ) → at + count ≤ bound → AllByRecursion (λ k. k < bound) (members_from s at count)
members-below s at zero bound h = tt
members-below s at (suc count) bound h =
    all_if (λ k. k < bound) (s at) at (members_from s (at + 1) count) (λ e. omega (arith, h))
    (members-below s (at + 1) count bound (omega (arith, h)))

pub members-in : (s : FieldSet) (at count : ℕ) → AllByRecursion (λ k. s k ≡ true) (members_from s at count)
members-in s at zero = tt
members-in s at (suc count) = all_if (λ k. s k ≡ true) (s at) at (members_from s (at + 1) count) (λ e. e) (members-in s (at + 1) count)

few_if : (b : Bool) (at count : ℕ) (rest : List ℕ) → length rest ≤ count → length (cond b (at ∷ rest) rest) ≤ suc count
few_if true at count rest h = omega (arith, h)
few_if false at count rest h = omega (arith, h)

pub members-few : (s : FieldSet) (at count : ℕ) → length (members_from s at count) ≤ count
members-few s at zero = omega arith
members-few s at (suc count) = few_if (s at) at count (members_from s (at + 1) count) (members-few s (at + 1) count)

-- ---- a field of the set

any_rest : (test : ℕ → Bool) (b : Bool) (at : ℕ) (rest : List ℕ) → list_any test rest ≡ true → list_any test (cond b (at ∷ rest) rest) ≡ true
any_rest test true at rest h = or_right (test at) (list_any test rest) h
any_rest test false at rest h = h

any_first : (test : ℕ → Bool) (b : Bool) (at : ℕ) (rest : List ℕ) → b ≡ true → test at ≡ true → list_any test (cond b (at ∷ rest) rest) ≡ true
any_first test true at rest e h = or_left (test at) (list_any test rest) h
any_first test false at rest e h = absurd (true≢false (sym e))

further : (k at : ℕ) → (k == at) ≡ false → at ≤ k → at + 1 ≤ k
further k at e low = grind (arith, e, low)

-- a field of the set that passes a test is in the list
pub members-any : (s : FieldSet) (test : ℕ → Bool) (at count k : ℕ) → at ≤ k → k < at + count → s k ≡ true → test k ≡ true
    → list_any test (members_from s at count) ≡ true
members-any s test at zero k low high h t = absurd (omega (arith, low, high))
members-any s test at (suc count) k low high h t = elim (cases_Bool (k == at)) as (λ _. list_any test (members_from s at (suc count)) ≡ true) [
  | inl e ↦
      let same : k ≡ at = eqb-true k at e in
      any_first test (s at) at (members_from s (at + 1) count) (subst (λ (j : ℕ). s j ≡ true) same h) (subst (λ (j : ℕ). test j ≡ true) same t)
  | inr e ↦
      any_rest test (s at) at (members_from s (at + 1) count) (members-any s test (at + 1) count k (further k at e low) (omega (arith, high)) h t)
]

pub members-listed : (s : FieldSet) (at count k : ℕ) → at ≤ k → k < at + count → s k ≡ true → is_listed (members_from s at count) k ≡ true
members-listed s at count k low high h = members-any s (λ j. k == j) at count k low high h (eq-eqb k k refl)

-- if a field in the list passes a test, a field of the set passes it
pub any-member : (test : ℕ → Bool) (ks : List ℕ) (s : FieldSet) → AllByRecursion (λ k. s k ≡ true) ks → list_any test ks ≡ true
    → (k : ℕ) × (s k ≡ true) × (test k ≡ true)
any-member test [] s h e = absurd (true≢false (sym e))
any-member test (k ∷ ks) s h e = elim (or_cases (test k) (list_any test ks) e) as (λ _. (j : ℕ) × (s j ≡ true) × (test j ≡ true)) [
  | inl t ↦ (k, h.0, t)
  | inr t ↦ any-member test ks s h.1 t
]
