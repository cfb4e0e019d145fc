-- Lists in general.
use Rattle.std.proofs.Common.{◌≡◌, ◌≢◌, ◌<◌, ℕ, zero, suc, List, [], ◌∷◌, ◌++◌, length, get_or, refl, ap, arith}
use Rattle.std.specs.Prelude.{slice_set}
use Rattle.std.specs.List.{AllByRecursion}

-- ---- one place

-- appending the default changes no read
pub get_or-last : {X : Type 0} (xs : List X) (d : X) (n : ℕ) → get_or (xs ++ d ∷ []) n d ≡ get_or xs n d
get_or-last [] d zero = refl
get_or-last [] d (suc n) = refl
get_or-last (x ∷ xs) d zero = refl
get_or-last (x ∷ xs) d (suc n) = get_or-last xs d n

-- a place that is set twice has the value that was set last
pub set_twice : {X : Type 0} (xs : List X) (n : ℕ) (x y : X) → slice_set (slice_set xs n x) n y ≡ slice_set xs n y
set_twice [] n x y = refl
set_twice (z ∷ xs) zero x y = refl
set_twice (z ∷ xs) (suc n) x y = ap (λ l. z ∷ l) (set_twice xs n x y)

-- lists that agree except at one place
pub agree_off : {A : Type 0} (xs ys : List A) (n : ℕ) (v d : A) → length xs ≡ length ys → ((m : ℕ) → m < length xs → m ≢ n → get_or xs m d ≡ get_or ys m d) → slice_set xs n v ≡ slice_set ys n v
agree_off [] [] n v d e h = refl
agree_off [] (y ∷ ys) n v d e h = absurd (omega (arith, e))
agree_off (x ∷ xs) [] n v d e h = absurd (omega (arith, e))
agree_off (x ∷ xs) (y ∷ ys) zero v d e h = λ i. v ∷ agree xs ys d (omega (arith, e)) (λ m lt. h (suc m) (omega (arith, lt)) (λ s. omega (arith, s))) i where
  agree : {A : Type 0} (xs ys : List A) (d : A) → length xs ≡ length ys → ((m : ℕ) → m < length xs → get_or xs m d ≡ get_or ys m d) → xs ≡ ys
  agree [] [] d e h = refl
  agree [] (y ∷ ys) d e h = absurd (omega (arith, e))
  agree (x ∷ xs) [] d e h = absurd (omega (arith, e))
  agree (x ∷ xs) (y ∷ ys) d e h = λ i. h 0 (omega arith) i ∷ agree xs ys d (omega (arith, e)) (λ m lt. h (suc m) (omega (arith, lt))) i
agree_off (x ∷ xs) (y ∷ ys) (suc n) v d e h = λ i. h 0 (omega arith) (λ s. omega (arith, s)) i ∷ agree_off xs ys n v d (omega (arith, e)) (λ m lt ne. h (suc m) (omega (arith, lt)) (λ s. ne (omega (arith, s)))) i

-- ---- properties of each item

pub all-set : {X : Type 0} (P : X → Type 0) (xs : List X) (n : ℕ) (x : X) → AllByRecursion P xs → P x → AllByRecursion P (slice_set xs n x)
all-set P [] n x h p = tt
all-set P (y ∷ xs) zero x h p = (p, h.1)
all-set P (y ∷ xs) (suc n) x h p = (h.0, all-set P xs n x h.1 p)

pub all-get : {X : Type 0} (P : List X → Type 0) (xs : List (List X)) (n : ℕ) → P [] → AllByRecursion P xs → P (get_or xs n [])
all-get P [] zero e h = e
all-get P [] (suc n) e h = e
all-get P (x ∷ xs) zero e h = h.0
all-get P (x ∷ xs) (suc n) e h = all-get P xs n e h.1

pub all-last : {X : Type 0} (P : X → Type 0) (xs : List X) (x : X) → AllByRecursion P xs → P x → AllByRecursion P (xs ++ x ∷ [])
all-last P [] x h p = (p, tt)
all-last P (y ∷ xs) x h p = (h.0, all-last P xs x h.1 p)
