-- Three lists of one length, place by place.
use Rattle.std.proofs.Common.{◌≡◌, ℕ, zero, suc, List, [], ◌∷◌, length, get_or, slice_set, map, replicate, arith}
use Rattle.tac_flow.specs.Known.{zipped}

abbrev pub Each : {A B C : Type 0} → (A → B → C → Type 0) → List A → List B → List C → Type 0
Each P [] [] [] = Unit {0}
Each P [] [] (c ∷ cs) = ⊥
Each P [] (b ∷ bs) cs = ⊥
Each P (a ∷ rest) [] cs = ⊥
Each P (a ∷ rest) (b ∷ bs) [] = ⊥
Each P (a ∷ rest) (b ∷ bs) (c ∷ cs) = P a b c × Each P rest bs cs

pub Each-set : {A B C : Type 0} (P : A → B → C → Type 0) (xs : List A) (bs : List B) (cs : List C) (k : ℕ) (a : A) (b : B) (c : C)
    → Each P xs bs cs → P a b c → Each P (slice_set xs k a) (slice_set bs k b) (slice_set cs k c)
Each-set P [] [] [] k a b c h p = tt
Each-set P (x ∷ xs) (y ∷ bs) (z ∷ cs) zero a b c h p = (p, h.1)
Each-set P (x ∷ xs) (y ∷ bs) (z ∷ cs) (suc k) a b c h p = (h.0, Each-set P xs bs cs k a b c h.1 p)
Each-set P xs bs cs k a b c h p = absurd h

pub Each-get_or : {A B C : Type 0} (P : A → B → C → Type 0) (xs : List A) (bs : List B) (cs : List C) (k : ℕ) (a : A) (b : B) (c : C)
    → Each P xs bs cs → P a b c → P (get_or xs k a) (get_or bs k b) (get_or cs k c)
Each-get_or P [] [] [] k a b c h p = p
Each-get_or P (x ∷ xs) (y ∷ bs) (z ∷ cs) zero a b c h p = h.0
Each-get_or P (x ∷ xs) (y ∷ bs) (z ∷ cs) (suc k) a b c h p = Each-get_or P xs bs cs k a b c h.1 p
Each-get_or P xs bs cs k a b c h p = absurd h

pub Each-weaker : {A B C : Type 0} (P Q : A → B → C → Type 0) → ((a : A) (b : B) (c : C) → P a b c → Q a b c) → (xs : List A) (bs : List B) (cs : List C) → Each P xs bs cs → Each Q xs bs cs
Each-weaker P Q f [] [] [] h = tt
Each-weaker P Q f (x ∷ xs) (y ∷ bs) (z ∷ cs) h = (f x y z h.0, Each-weaker P Q f xs bs cs h.1)
Each-weaker P Q f xs bs cs h = absurd h

pub Each-replicate : {A B C : Type 0} (P : A → B → C → Type 0) (n : ℕ) (a : A) (b : B) (c : C) → P a b c → Each P (replicate n a) (replicate n b) (replicate n c)
Each-replicate P zero a b c p = tt
Each-replicate P (suc n) a b c p = (p, Each-replicate P n a b c p)

pub Each-map : {A B C : Type 0} (P Q : A → B → C → Type 0) (f : A → A) → ((a : A) (b : B) (c : C) → P a b c → Q (f a) b c) → (xs : List A) (bs : List B) (cs : List C) → Each P xs bs cs → Each Q (map f xs) bs cs
Each-map P Q f k [] [] [] h = tt
Each-map P Q f k (x ∷ xs) (y ∷ bs) (z ∷ cs) h = (k x y z h.0, Each-map P Q f k xs bs cs h.1)
Each-map P Q f k xs bs cs h = absurd h

-- if the first list is joined with another one, either list may be it
pub Each-zipped_left : {A B C : Type 0} (P : A → B → C → Type 0) (f : A → A → A) → ((a o : A) (b : B) (c : C) → P a b c → P (f a o) b c) → (xs os : List A) (bs : List B) (cs : List C) → length os ≡ length xs
    → Each P xs bs cs → Each P (zipped f xs os) bs cs
Each-zipped_left P f k [] os [] [] e h = tt
Each-zipped_left P f k (x ∷ xs) [] (y ∷ bs) (z ∷ cs) e h = absurd (omega arith)
Each-zipped_left P f k (x ∷ xs) (o ∷ os) (y ∷ bs) (z ∷ cs) e h = (k x o y z h.0, Each-zipped_left P f k xs os bs cs (omega arith) h.1)
Each-zipped_left P f k xs os bs cs e h = absurd h

pub Each-zipped_right : {A B C : Type 0} (P : A → B → C → Type 0) (f : A → A → A) → ((a o : A) (b : B) (c : C) → P o b c → P (f a o) b c) → (xs os : List A) (bs : List B) (cs : List C) → length os ≡ length xs
    → Each P os bs cs → Each P (zipped f xs os) bs cs
Each-zipped_right P f k [] [] bs cs e h = h
Each-zipped_right P f k [] (o ∷ os) bs cs e h = absurd (omega arith)
Each-zipped_right P f k (x ∷ xs) [] bs cs e h = absurd (omega arith)
Each-zipped_right P f k (x ∷ xs) (o ∷ os) [] cs e h = absurd h
Each-zipped_right P f k (x ∷ xs) (o ∷ os) (y ∷ bs) [] e h = absurd h
Each-zipped_right P f k (x ∷ xs) (o ∷ os) (y ∷ bs) (z ∷ cs) e h = (k x o y z h.0, Each-zipped_right P f k xs os bs cs (omega arith) h.1)
