-- The numbers whose edges are cut, and the new numbers of the operators on them.
use Rattle.std.proofs.Common.{◌≡◌, ◌≢◌, ◌<◌, ◌≤◌, ◌+◌, ◌==◌, ℕ, suc, inl, inr, if◌then◌else◌, List, [], ◌∷◌, ◌++◌, Option, Some, None, length, slice_get, refl, sym, ap, arith}
use Rattle.std.specs.List.{AllByRecursion}
use Rattle.std.proofs.lemmas.Bool.{cases_Bool, eq-eqb, eqb-true, ne_eqb}
use Rattle.std.proofs.lemmas.Option.{same_Some}
use Rattle.pact_record.proofs.Lists.{AllByRecursion-slice_get}
use Rattle.plan_trees.specs.Distinct.{IsAbsent}
use Rattle.prune_fields.specs.Insertions.{Cuts, cuts_from}

-- ---- one at a time

pub none_is : (m : ℕ) → None ≡ Some m → ⊥
none_is m e = cc

pub cut_place : (at : ℕ) (ns : List ℕ) (n m : ℕ) → cuts_from at ns n ≡ Some m → (j : ℕ) × (m ≡ at + j) × (slice_get ns j ≡ Some n)
cut_place at [] n m e = absurd (none_is m e)
cut_place at (k ∷ ks) n m e = elim (cases_Bool (n == k)) as (λ _. (j : ℕ) × (m ≡ at + j) × (slice_get (k ∷ ks) j ≡ Some n)) [
  | inl t ↦
      let same : at ≡ m = same_Some at m (simp t at e) in
      (0, omega (arith, same), ap Some (sym (eqb-true n k t)))
  | inr f ↦ let r = cut_place (at + 1) ks n m (simp f at e) in (suc r.0, omega (arith, r.1), r.2)
]

-- a property of all numbers in a list holds for each number that is cut
pub each_cut : (P : ℕ → Type 0) (m n j : ℕ) (ns : List ℕ) → AllByRecursion P ns → cuts_from m ns n ≡ Some j → P n
each_cut P m n j ns h e = let c = cut_place m ns n j e in AllByRecursion-slice_get P ns c.0 n h c.2

pub absent-high : (n : ℕ) (ks : List ℕ) → AllByRecursion (λ k. k < n) ks → IsAbsent n ks
absent-high n [] h = tt
absent-high n (k ∷ ks) h = ((λ e. absurd (omega (arith, e, h.0))), absent-high n ks h.1)

-- ---- one more

-- one more cut, of a number that isn't cut yet and isn't a new one
pub record IsNext (cut next : Cuts) (n new : ℕ) : Type 0 where
  pub other : (r : ℕ) → r ≢ n → next r ≡ cut r
  pub free : cut n ≡ None
  pub now : next n ≡ Some new
  pub apart : (r j : ℕ) → cut r ≡ Some j → j ≢ n

cuts_other : (m : ℕ) (ns : List ℕ) (n r : ℕ) → r ≢ n → cuts_from m (ns ++ n ∷ []) r ≡ cuts_from m ns r
cuts_other m [] n r ne = rw (ne_eqb r n ne) refl
cuts_other m (k ∷ ks) n r ne = ap (λ (c : Option ℕ). if r == k then Some m else c) (cuts_other (m + 1) ks n r ne)

pub cuts_free : (m : ℕ) (ns : List ℕ) (n : ℕ) → IsAbsent n ns → cuts_from m ns n ≡ None
cuts_free m [] n h = refl
cuts_free m (k ∷ ks) n h = rw (ne_eqb n k h.0) (cuts_free (m + 1) ks n h.1)

cuts_now : (m new : ℕ) (ns : List ℕ) (n : ℕ) → IsAbsent n ns → new ≡ m + length ns → cuts_from m (ns ++ n ∷ []) n ≡ Some new
cuts_now m new [] n h e = rw (eq-eqb n n refl) (ap (λ (k : ℕ). Some k) (omega (arith, e)))
cuts_now m new (k ∷ ks) n h e = rw (ne_eqb n k h.0) (cuts_now (m + 1) new ks n h.1 (omega (arith, e)))

cuts_high : (m : ℕ) (ns : List ℕ) (r j : ℕ) → cuts_from m ns r ≡ Some j → m ≤ j
cuts_high m [] r j e = absurd (none_is j e)
cuts_high m (k ∷ ks) r j e = elim (cases_Bool (r == k)) as (λ _. m ≤ j) [
  | inl b ↦ (let is : m ≡ j = same_Some m j (simp b at e) in omega (arith, is))
  | inr b ↦ (let up = cuts_high (m + 1) ks r j (simp b at e) in omega (arith, up))
]

pub is_next : (m new : ℕ) (ns : List ℕ) (n : ℕ) → IsAbsent n ns → n < m → new ≡ m + length ns
    → IsNext (cuts_from m ns) (cuts_from m (ns ++ n ∷ [])) n new
is_next m new ns n absent lt e = record {
  other = λ r ne. cuts_other m ns n r ne;
  free = cuts_free m ns n absent;
  now = cuts_now m new ns n absent e;
  apart = λ r j q s. (let high = cuts_high m ns r j q in omega (arith, high, s, lt));
}
