-- What the tests on lists of keys decide.
use Rattle.std.proofs.Common.{◌≡◌, ◌≢◌, ◌==◌, length, inl, inr, ℕ, true, false, Bool, List, [], ◌∷◌, refl, ap, sym, ◌∙◌}
use Rattle.std.specs.Prelude.{Some, None}
use Rattle.std.specs.List.{AllByRecursion, list_all}
use Rattle.std.specs.Bool.{Decides}
use Rattle.std.proofs.lemmas.Bool.{cases_Bool, eq-eqb, or_left, or_right, and_parts, and_from, true≢false}
use Rattle.std.proofs.lemmas.Bool.Decides.{Decides-eqb}
use Rattle.std.proofs.lemmas.Slice.Eq.{slice_eq-Decides}
use Rattle.pact_record.specs.Keys.{is_listed}
use Rattle.ship_strategy.specs.Ships.{Placement, is_within, is_exactly, same_keys}

pub all_listed : (test : ℕ → Bool) (fields : List ℕ) → list_all test fields ≡ true → AllByRecursion (λ k. test k ≡ true) fields
all_listed test [] e = tt
all_listed test (k ∷ fields) e = let p = and_parts (test k) (list_all test fields) e in (p.0, all_listed test fields p.1)

pub listed_all : (test : ℕ → Bool) (fields : List ℕ) → AllByRecursion (λ k. test k ≡ true) fields → list_all test fields ≡ true
listed_all test [] h = refl
listed_all test (k ∷ fields) h = and_from (test k) (list_all test fields) h.0 (listed_all test fields h.1)

more_listed : (keys fields : List ℕ) (j : ℕ) → AllByRecursion (λ k. is_listed keys k ≡ true) fields → AllByRecursion (λ k. is_listed (j ∷ keys) k ≡ true) fields
more_listed keys [] j h = tt
more_listed keys (k ∷ fields) j h = (or_right (k == j) (is_listed keys k) h.0, more_listed keys fields j h.1)

-- keys are among themselves
pub listed_self : (keys : List ℕ) → AllByRecursion (λ k. is_listed keys k ≡ true) keys
listed_self [] = tt
listed_self (k ∷ keys) = (or_left (k == k) (is_listed keys k) (eq-eqb k k refl), more_listed keys keys k (listed_self keys))

same_keys-Decides : (a b : List ℕ) → Decides (same_keys a b) (a ≡ b)
same_keys-Decides a b = slice_eq-Decides Decides-eqb a b (same_keys a b) refl

pub other_lists : (a b : List ℕ) (m n : ℕ) → m ≡ length a → n ≡ length b → m ≢ n → false ≡ same_keys a b
other_lists a b m n p q h = elim (cases_Bool (same_keys a b)) as (λ _. false ≡ same_keys a b) [
  | inl e ↦ absurd (h (p ∙ ap length ((same_keys-Decides a b).0 e) ∙ sym q))
  | inr e ↦ sym e
]

pub exactly : (keys : List ℕ) (edge : Placement) → is_exactly keys edge ≡ true → edge ≡ Some keys
exactly keys None e = absurd (true≢false (sym e))
exactly keys (Some fields) e = ap (λ (x : List ℕ). Some x) ((same_keys-Decides fields keys).0 e)

pub exactly_self : (keys : List ℕ) (edge : Placement) → edge ≡ Some keys → is_exactly keys edge ≡ true
exactly_self keys edge e = ap (is_exactly keys) e ∙ (same_keys-Decides keys keys).1 refl

pub within : (keys : List ℕ) (edge : Placement) → is_within keys edge ≡ true → (fields : List ℕ) × (edge ≡ Some fields) × AllByRecursion (λ k. is_listed keys k ≡ true) fields
within keys None e = absurd (true≢false (sym e))
within keys (Some fields) e = (fields, refl, all_listed (is_listed keys) fields e)
