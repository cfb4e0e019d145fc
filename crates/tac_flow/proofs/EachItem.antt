-- Facts about each item of a list, of a mapped list, and of two lists that are joined place by place.
use Rattle.std.proofs.Common.{◌≡◌, ℕ, zero, suc, List, [], ◌∷◌, length, get_or, slice_set, map, replicate, refl, ap, arith}
use Rattle.std.specs.List.{AllByRecursion}
use Rattle.std.proofs.lemmas.List.Elements.{All-set, All-replicate, All-from_recursion, recursion_from_All}
use Rattle.tac_flow.specs.Known.{zipped}

pub AllByRecursion-set : {A : Type 0} (P : A → Type 0) (xs : List A) (n : ℕ) (a : A) → AllByRecursion P xs → P a → AllByRecursion P (slice_set xs n a)
AllByRecursion-set P xs n a h p = recursion_from_All P (slice_set xs n a) (All-set P xs n a p (All-from_recursion P xs h))

-- at any place, if it holds for the default, too
pub AllByRecursion-at_any : {A : Type 0} (P : A → Type 0) (xs : List A) (n : ℕ) (d : A) → AllByRecursion P xs → P d → P (get_or xs n d)
AllByRecursion-at_any P [] n d h p = p
AllByRecursion-at_any P (x ∷ xs) zero d h p = h.0
AllByRecursion-at_any P (x ∷ xs) (suc n) d h p = AllByRecursion-at_any P xs n d h.1 p

pub AllByRecursion-replicate : {A : Type 0} (P : A → Type 0) (n : ℕ) (a : A) → P a → AllByRecursion P (replicate n a)
AllByRecursion-replicate P n a p = recursion_from_All P (replicate n a) (All-replicate P n a p)

pub AllByRecursion-map : {A B : Type 0} (P : A → Type 0) (Q : B → Type 0) (f : A → B) → ((a : A) → P a → Q (f a)) → (xs : List A) → AllByRecursion P xs → AllByRecursion Q (map f xs)
AllByRecursion-map P Q f k [] h = tt
AllByRecursion-map P Q f k (x ∷ xs) h = (k x h.0, AllByRecursion-map P Q f k xs h.1)

pub AllByRecursion-zipped : {A : Type 0} (P : A → Type 0) (f : A → A → A) → ((a b : A) → P a → P b → P (f a b)) → (xs ys : List A) → AllByRecursion P xs → AllByRecursion P ys → AllByRecursion P (zipped f xs ys)
AllByRecursion-zipped P f k [] ys h g = tt
AllByRecursion-zipped P f k (x ∷ xs) [] h g = tt
AllByRecursion-zipped P f k (x ∷ xs) (y ∷ ys) h g = (k x y h.0 g.0, AllByRecursion-zipped P f k xs ys h.1 g.1)

pub length-zipped : {A : Type 0} (f : A → A → A) (xs ys : List A) → length ys ≡ length xs → length (zipped f xs ys) ≡ length xs
length-zipped f [] ys e = refl
length-zipped f (x ∷ xs) [] e = absurd (omega (arith, e))
length-zipped f (x ∷ xs) (y ∷ ys) e = ap suc (length-zipped f xs ys (omega (arith, e)))
