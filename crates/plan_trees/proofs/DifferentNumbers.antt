-- Numbers of a list, and lists in which no number occurs twice.
use Rattle.std.proofs.Common.{◌≡◌, ◌≢◌, ◌≤◌, ◌⊎◌, inl, inr, ℕ, List, [], ◌∷◌, ◌++◌, length, refl, ap, sym, subst, arith, length-append}
use Rattle.std.specs.List.{AllByRecursion}
use Rattle.plan_trees.specs.Distinct.{IsAbsent, AreDifferent}

-- ---- the numbers of a list

abbrev pub IsIn : ℕ → List ℕ → Type 0
IsIn m [] = ⊥
IsIn m (n ∷ ns) = (m ≡ n) ⊎ IsIn m ns

pub IsIn-parts : (m : ℕ) (a b : List ℕ) → IsIn m (a ++ b) → IsIn m a ⊎ IsIn m b
IsIn-parts m [] b h = inr h
IsIn-parts m (n ∷ a) b (inl h) = inl (inl h)
IsIn-parts m (n ∷ a) b (inr h) = elim (IsIn-parts m a b h) [
  | inl p ↦ inl (inr p)
  | inr p ↦ inr p
]

pub IsIn-left : (m : ℕ) (a b : List ℕ) → IsIn m a → IsIn m (a ++ b)
IsIn-left m [] b i = absurd i
IsIn-left m (n ∷ a) b (inl e) = inl e
IsIn-left m (n ∷ a) b (inr i) = inr (IsIn-left m a b i)

pub IsIn-right : (m : ℕ) (a b : List ℕ) → IsIn m b → IsIn m (a ++ b)
IsIn-right m [] b i = i
IsIn-right m (n ∷ a) b i = inr (IsIn-right m a b i)

-- ---- a number that isn't in a list

pub IsAbsent-from : (n : ℕ) (ms : List ℕ) → ((m : ℕ) → IsIn m ms → m ≡ n → ⊥) → IsAbsent n ms
IsAbsent-from n [] h = tt
IsAbsent-from n (m ∷ ms) h = (λ e. h m (inl refl) (sym e), IsAbsent-from n ms (λ k p. h k (inr p)))

pub IsAbsent-append : (n : ℕ) (a b : List ℕ) → IsAbsent n a → IsAbsent n b → IsAbsent n (a ++ b)
IsAbsent-append n [] b p q = q
IsAbsent-append n (m ∷ a) b p q = (p.0, IsAbsent-append n a b p.1 q)

pub IsAbsent-not : (n : ℕ) (ms : List ℕ) → IsAbsent n ms → IsIn n ms → ⊥
IsAbsent-not n [] h i = absurd i
IsAbsent-not n (m ∷ ms) h (inl e) = h.0 e
IsAbsent-not n (m ∷ ms) h (inr i) = IsAbsent-not n ms h.1 i

pub IsAbsent-left : (n : ℕ) (xs ys : List ℕ) → IsAbsent n (xs ++ ys) → IsAbsent n xs
IsAbsent-left n [] ys h = tt
IsAbsent-left n (x ∷ xs) ys h = (h.0, IsAbsent-left n xs ys h.1)

pub IsAbsent-right : (n : ℕ) (xs ys : List ℕ) → IsAbsent n (xs ++ ys) → IsAbsent n ys
IsAbsent-right n [] ys h = h
IsAbsent-right n (x ∷ xs) ys h = IsAbsent-right n xs ys h.1

-- ---- numbers that occur once

pub AreDifferent-append : (a b : List ℕ) → AreDifferent a → AreDifferent b → ((m : ℕ) → IsIn m a → IsIn m b → ⊥) → AreDifferent (a ++ b)
AreDifferent-append [] b p q h = q
AreDifferent-append (n ∷ a) b p q h = (
  IsAbsent-append n a b p.0 (IsAbsent-from n b (λ m i e. h m (subst (λ (x : ℕ). (x ≡ n) ⊎ IsIn x a) (sym e) (inl refl)) i)),
  AreDifferent-append a b p.1 q (λ m i k. h m (inr i) k),
)

-- no number of the first list is in the second
pub AreDifferent-absent : (xs ys : List ℕ) → AreDifferent (xs ++ ys) → AllByRecursion (λ n. IsAbsent n ys) xs
AreDifferent-absent [] ys h = tt
AreDifferent-absent (n ∷ xs) ys h = (IsAbsent-right n xs ys h.0, AreDifferent-absent xs ys h.1)

pub AreDifferent-parts : (a b : List ℕ) → AreDifferent (a ++ b) → AreDifferent a × AreDifferent b × ((m : ℕ) → IsIn m a → IsIn m b → ⊥)
AreDifferent-parts [] b d = (tt, d, λ m i k. i)
AreDifferent-parts (n ∷ a) b d =
    let r = AreDifferent-parts a b d.1 in (
      (IsAbsent-from n a (λ m i e. IsAbsent-not n (a ++ b) d.0 (subst (λ (k : ℕ). IsIn k (a ++ b)) e (IsIn-left m a b i))), r.0),
      r.1,
      λ m i k. elim i as (λ _. ⊥) [
        | inl e ↦ IsAbsent-not n (a ++ b) d.0 (subst (λ (x : ℕ). IsIn x (a ++ b)) e (IsIn-right m a b k))
        | inr j ↦ r.2 m j k
      ],
    )

-- ---- how many there are

place_in : (m : ℕ) (ys : List ℕ) → IsIn m ys → (a b : List ℕ) × (ys ≡ a ++ m ∷ b)
place_in m [] i = absurd i
place_in m (y ∷ ys) (inl e) = ([], ys, ap (λ (x : ℕ). x ∷ ys) (sym e))
place_in m (y ∷ ys) (inr i) = let r = place_in m ys i in (y ∷ r.0, r.1, ap (λ (x : List ℕ). y ∷ x) r.2)

without : (m k : ℕ) (a b : List ℕ) → IsIn k (a ++ m ∷ b) → k ≢ m → IsIn k (a ++ b)
without m k [] b (inl e) other = absurd (other e)
without m k [] b (inr i) other = i
without m k (n ∷ a) b (inl e) other = inl e
without m k (n ∷ a) b (inr i) other = inr (without m k a b i other)

-- if different numbers are all in a list, they are no more than its length
pub length-le_from_different : (xs ys : List ℕ) → AreDifferent xs → ((m : ℕ) → IsIn m xs → IsIn m ys) → length xs ≤ length ys
length-le_from_different [] ys d h = omega arith
length-le_from_different (x ∷ xs) ys d h =
    let r = place_in x ys (h x (inl refl)) in
    let fewer = length-le_from_different xs (r.0 ++ r.1) d.1 (λ m i. without x m r.0 r.1 (subst (IsIn m) r.2 (h m (inr i))) (λ e. IsAbsent-not x xs d.0 (subst (λ (k : ℕ). IsIn k xs) e i))) in
    let all : length ys ≡ length (r.0 ++ x ∷ r.1) = ap length r.2 in
    omega (arith, fewer, all, length-append r.0 (x ∷ r.1), length-append r.0 r.1)
