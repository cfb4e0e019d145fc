-- Lists that are related place by place.
use Rattle.std.proofs.Common.{◌≡◌, Bool, true, false, cond, List, [], ◌∷◌, ◌++◌, length, suc, refl, ap, subst}
use Rattle.std.specs.Prelude.{flat_map, filter}
use Rattle.std.specs.List.{AllZip}

pub AllZip-append : {A B : Type 0} (P : A → B → Type 0) (xs : List A) (ys : List B) (us : List A) (vs : List B) → AllZip P xs ys → AllZip P us vs
    → AllZip P (xs ++ us) (ys ++ vs)
AllZip-append P [] [] us vs h g = g
AllZip-append P [] (y ∷ ys) us vs h g = absurd h
AllZip-append P (x ∷ xs) [] us vs h g = absurd h
AllZip-append P (x ∷ xs) (y ∷ ys) us vs h g = (h.0, AllZip-append P xs ys us vs h.1 g)

pub AllZip-flat_map : {A B C D : Type 0} (P : A → B → Type 0) (Q : C → D → Type 0) (f : A → List C) (g : B → List D) (xs : List A) (ys : List B)
    → ((x : A) (y : B) → P x y → AllZip Q (f x) (g y)) → AllZip P xs ys → AllZip Q (flat_map f xs) (flat_map g ys)
AllZip-flat_map P Q f g [] [] e h = tt
AllZip-flat_map P Q f g [] (y ∷ ys) e h = absurd h
AllZip-flat_map P Q f g (x ∷ xs) [] e h = absurd h
AllZip-flat_map P Q f g (x ∷ xs) (y ∷ ys) e h =
    AllZip-append Q (f x) (g y) (flat_map f xs) (flat_map g ys) (e x y h.0) (AllZip-flat_map P Q f g xs ys e h.1)

pub AllZip-length : {A B : Type 0} (P : A → B → Type 0) (xs : List A) (ys : List B) → AllZip P xs ys → length xs ≡ length ys
AllZip-length P [] [] h = refl
AllZip-length P [] (y ∷ ys) h = absurd h
AllZip-length P (x ∷ xs) [] h = absurd h
AllZip-length P (x ∷ xs) (y ∷ ys) h = ap suc (AllZip-length P xs ys h.1)

AllZip-kept : {A B : Type 0} (P : A → B → Type 0) (b : Bool) (x : A) (y : B) (xs : List A) (ys : List B) → P x y → AllZip P xs ys
    → AllZip P (cond b (x ∷ xs) xs) (cond b (y ∷ ys) ys)
AllZip-kept P true x y xs ys h g = (h, g)
AllZip-kept P false x y xs ys h g = g

-- filtered by tests that agree at each place
pub AllZip-filter : {A B : Type 0} (P : A → B → Type 0) (s : A → Bool) (t : B → Bool) (xs : List A) (ys : List B)
    → ((x : A) (y : B) → P x y → s x ≡ t y) → AllZip P xs ys
    → AllZip P (filter s xs) (filter t ys)
AllZip-filter P s t [] [] e h = tt
AllZip-filter P s t [] (y ∷ ys) e h = absurd h
AllZip-filter P s t (x ∷ xs) [] e h = absurd h
AllZip-filter P s t (x ∷ xs) (y ∷ ys) e h =
    subst (λ (b : Bool). AllZip P (filter s (x ∷ xs)) (cond b (y ∷ filter t ys) (filter t ys))) (e x y h.0)
    (AllZip-kept P (s x) x y (filter s xs) (filter t ys) h.0 (AllZip-filter P s t xs ys e h.1))

pub AllZip-chain : {A B C : Type 0} (P : A → B → Type 0) (Q : B → C → Type 0) (R : A → C → Type 0) (xs : List A) (ys : List B) (zs : List C)
    → ((x : A) (y : B) (z : C) → P x y → Q y z → R x z) → AllZip P xs ys → AllZip Q ys zs → AllZip R xs zs
AllZip-chain P Q R [] [] [] e h g = tt
AllZip-chain P Q R [] [] (z ∷ zs) e h g = absurd g
AllZip-chain P Q R [] (y ∷ ys) zs e h g = absurd h
AllZip-chain P Q R (x ∷ xs) [] zs e h g = absurd h
AllZip-chain P Q R (x ∷ xs) (y ∷ ys) [] e h g = absurd g
AllZip-chain P Q R (x ∷ xs) (y ∷ ys) (z ∷ zs) e h g = (e x y z h.0 g.0, AllZip-chain P Q R xs ys zs e h.1 g.1)
