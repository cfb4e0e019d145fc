-- Lists that are changed place by place from the beginning.
use Rattle.std.proofs.Common.{◌≡◌, ◌≤◌, ◌<◌, ◌+◌, ℕ, zero, suc, List, [], ◌∷◌, ◌++◌, length, take, drop, get_or, slice_set, map, refl, sym, ap, ◌∙◌, arith}
use Rattle.std.proofs.lemmas.List.{map-set, length-map, length-set, get_or-map, take_more_same}
use Rattle.tac_flow.specs.Known.{zipped}

abbrev pub zip_so_far : {A : Type 0} → (A → A → A) → List A → List A → ℕ → List A
zip_so_far f xs ys n = take n (zipped f xs ys) ++ drop n xs

pub zip_next : {A : Type 0} (f : A → A → A) (xs ys : List A) (n m : ℕ) (d e : A) → m ≡ n + 1 → length xs ≡ length ys → n < length xs
    → slice_set (zip_so_far f xs ys n) n (f (get_or (zip_so_far f xs ys n) n d) (get_or ys n e)) ≡ zip_so_far f xs ys m
zip_next f [] ys n m d e q l h = absurd (omega (arith, h))
zip_next f (x ∷ xs) [] n m d e q l h = absurd (omega (arith, l))
zip_next f (x ∷ xs) (y ∷ ys) zero zero d e q l h = absurd (omega (arith, q))
zip_next f (x ∷ xs) (y ∷ ys) zero (suc m) d e q l h = let z : 0 ≡ m = omega (arith, q) in ap (λ k. f x y ∷ zip_so_far f xs ys k) z
zip_next f (x ∷ xs) (y ∷ ys) (suc n) zero d e q l h = absurd (omega (arith, q))
zip_next f (x ∷ xs) (y ∷ ys) (suc n) (suc m) d e q l h = ap (λ k. f x y ∷ k) (zip_next f xs ys n m d e (omega (arith, q)) (omega (arith, l)) (omega (arith, h)))

pub zip_all : {A : Type 0} (f : A → A → A) (xs ys : List A) (n : ℕ) → length xs ≡ length ys → length xs ≤ n → zip_so_far f xs ys n ≡ zipped f xs ys
zip_all f [] ys zero l h = refl
zip_all f [] ys (suc n) l h = refl
zip_all f (x ∷ xs) [] n l h = absurd (omega (arith, l))
zip_all f (x ∷ xs) (y ∷ ys) zero l h = absurd (omega (arith, h))
zip_all f (x ∷ xs) (y ∷ ys) (suc n) l h = ap (λ k. f x y ∷ k) (zip_all f xs ys n (omega (arith, l)) (omega (arith, h)))

abbrev pub map_so_far : {A : Type 0} → (A → A) → List A → ℕ → List A
map_so_far f xs n = take n (map f xs) ++ drop n xs

pub map_next : {A : Type 0} (f : A → A) (xs : List A) (n m : ℕ) (d : A) → m ≡ n + 1 → n < length xs → slice_set (map_so_far f xs n) n (f (get_or (map_so_far f xs n) n d)) ≡ map_so_far f xs m
map_next f [] n m d q h = absurd (omega (arith, h))
map_next f (x ∷ xs) zero zero d q h = absurd (omega (arith, q))
map_next f (x ∷ xs) zero (suc m) d q h = let z : 0 ≡ m = omega (arith, q) in ap (λ k. f x ∷ map_so_far f xs k) z
map_next f (x ∷ xs) (suc n) zero d q h = absurd (omega (arith, q))
map_next f (x ∷ xs) (suc n) (suc m) d q h = ap (λ k. f x ∷ k) (map_next f xs n m d (omega (arith, q)) (omega (arith, h)))

-- equal up to the place
abbrev pub SameSoFar : {A : Type 0} → List A → List A → ℕ → Type 0
SameSoFar xs ys n = take n xs ≡ take n ys

-- ---- lists and what they represent

pub zip_step : {A B : Type 0} (view : B → A) (f : A → A → A) (first now others : List B) (n : ℕ) (b o v : B)
    → (map view now ≡ zip_so_far f (map view first) (map view others) n) × (length now ≡ length first) → length first ≡ length others → n < length now
    → o ≡ get_or others n o → view v ≡ f (view (get_or now n b)) (view o)
    → (map view (slice_set now n v) ≡ zip_so_far f (map view first) (map view others) (n + 1)) × (length (slice_set now n v) ≡ length first)
zip_step view f first now others n b o v i l lt eo ev =
    let xs = map view first in
    let ys = map view others in
    let long = length-map first view ∙ l ∙ sym (length-map others view) in
    let below : n < length xs = omega (arith, lt, i.1, length-map first view) in
    let one = sym (get_or-map view now n b (view b) lt) ∙ ap (λ k. get_or k n (view b)) i.0 in
    let two = ap view eo ∙ sym (get_or-map view others n o (view o) (omega (arith, lt, i.1, l))) in
    (map-set view now n v ∙ (λ j. slice_set (i.0 j) n ((ev ∙ (λ k. f (one k) (two k))) j)) ∙ zip_next f xs ys n (n + 1) (view b) (view o) refl long below, length-set now n v ∙ i.1)

pub map_step : {A B : Type 0} (view : B → A) (f : A → A) (first now : List B) (n : ℕ) (b v : B)
    → (map view now ≡ map_so_far f (map view first) n) × (length now ≡ length first) → n < length now → view v ≡ f (view (get_or now n b))
    → (map view (slice_set now n v) ≡ map_so_far f (map view first) (n + 1)) × (length (slice_set now n v) ≡ length first)
map_step view f first now n b v i lt ev =
    let xs = map view first in
    let one = sym (get_or-map view now n b (view b) lt) ∙ ap (λ k. get_or k n (view b)) i.0 in
    let below : n < length xs = omega (arith, lt, i.1, length-map first view) in
    (map-set view now n v ∙ (λ j. slice_set (i.0 j) n ((ev ∙ ap f one) j)) ∙ map_next f xs n (n + 1) (view b) refl below, length-set now n v ∙ i.1)

pub zip_done : {A B : Type 0} (view : B → A) (f : A → A → A) (first now others : List B) (n : ℕ)
    → (map view now ≡ zip_so_far f (map view first) (map view others) n) × (length now ≡ length first) → length first ≡ length others → length now ≤ n
    → map view now ≡ zipped f (map view first) (map view others)
zip_done view f first now others n i l le =
    i.0 ∙ zip_all f (map view first) (map view others) n (length-map first view ∙ l ∙ sym (length-map others view)) (omega (arith, le, i.1, length-map first view))

pub same_step : {A B : Type 0} (view : B → A) (bs os : List B) (n : ℕ) (b o : B) → SameSoFar (map view bs) (map view os) n → length bs ≡ length os → n < length bs → b ≡ get_or bs n b → o ≡ get_or os n o
    → view b ≡ view o → SameSoFar (map view bs) (map view os) (n + 1)
same_step view bs os n b o i l lt eb eo e =
    let more : n < length os = omega (arith, lt, l) in
    take_more_same (map view bs) (map view os) n (view b) (omega (arith, lt, length-map bs view)) (omega (arith, more, length-map os view)) i
    (get_or-map view bs n b (view b) lt ∙ sym (ap view eb) ∙ e ∙ ap view eo ∙ sym (get_or-map view os n o (view b) more))
