-- Registers of which only the first ones were set.
use Rattle.std.proofs.Common.{◌≡◌, ◌≤◌, ◌<◌, ◌+◌, ℕ, zero, suc, max, nat_le, Bool, true, false, List, [], ◌∷◌, ◌++◌, length, get_or, slice_set, refl, sym, ap, ◌∙◌, subst, arith}
use Rattle.std.proofs.lemmas.Bool.{leb-false, leb-true}
use Rattle.std.specs.List.{AllByRecursion}
use Rattle.tac_interp.specs.Registers.{filled}

pub filled-enough : {A : Type 0} (n : ℕ) (blank : A) (xs : List A) → n ≤ length xs → filled n blank xs ≡ xs
filled-enough zero blank xs h = refl
filled-enough (suc n) blank [] h = absurd (omega arith)
filled-enough (suc n) blank (x ∷ xs) h = ap (λ l. x ∷ l) (filled-enough n blank xs (omega arith))

pub filled-push : {A : Type 0} (n m : ℕ) (blank : A) (xs : List A) → m ≡ n + 1 → length xs ≤ n → filled n blank xs ++ blank ∷ [] ≡ filled m blank xs
filled-push n zero blank xs e h = absurd (omega (arith, e))
filled-push zero (suc zero) blank [] e h = refl
filled-push zero (suc (suc m)) blank [] e h = absurd (omega (arith, e))
filled-push zero (suc m) blank (x ∷ xs) e h = absurd (omega arith)
filled-push (suc n) (suc m) blank [] e h = ap (λ l. blank ∷ l) (filled-push n m blank [] (omega (arith, e)) (omega arith))
filled-push (suc n) (suc m) blank (x ∷ xs) e h = ap (λ l. x ∷ l) (filled-push n m blank xs (omega (arith, e)) (omega arith))

pub length-filled : {A : Type 0} (n : ℕ) (blank : A) (xs : List A) → length xs ≤ n → length (filled n blank xs) ≡ n
length-filled zero blank [] h = refl
length-filled zero blank (x ∷ xs) h = absurd (omega arith)
length-filled (suc n) blank [] h = ap suc (length-filled n blank [] (omega arith))
length-filled (suc n) blank (x ∷ xs) h = ap suc (length-filled n blank xs (omega arith))

-- a register that wasn't set has what it had at the start
pub get_or-filled : {A : Type 0} (n at : ℕ) (blank other : A) (xs : List A) → at < n → get_or (filled n blank xs) at other ≡ get_or xs at blank
get_or-filled zero at blank other xs h = absurd (omega arith)
get_or-filled (suc n) zero blank other [] h = refl
get_or-filled (suc n) (suc at) blank other [] h = get_or-filled n at blank other [] (omega arith)
get_or-filled (suc n) zero blank other (x ∷ xs) h = refl
get_or-filled (suc n) (suc at) blank other (x ∷ xs) h = get_or-filled n at blank other xs (omega arith)

-- setting a register in the list of the first ones, filled up to it, sets it in all
pub set-filled : {A : Type 0} (n m at : ℕ) (blank x : A) (xs : List A) → m ≡ at + 1 → at < n → filled n blank (slice_set (filled m blank xs) at x) ≡ slice_set (filled n blank xs) at x
set-filled zero m at blank x xs e h = absurd (omega arith)
set-filled (suc n) zero at blank x xs e h = absurd (omega (arith, e))
set-filled (suc n) (suc zero) zero blank x [] e h = refl
set-filled (suc n) (suc (suc m)) zero blank x [] e h = absurd (omega (arith, e))
set-filled (suc n) (suc m) (suc at) blank x [] e h = ap (λ l. blank ∷ l) (set-filled n m at blank x [] (omega (arith, e)) (omega arith))
set-filled (suc n) (suc zero) zero blank x (y ∷ xs) e h = refl
set-filled (suc n) (suc (suc m)) zero blank x (y ∷ xs) e h = absurd (omega (arith, e))
set-filled (suc n) (suc m) (suc at) blank x (y ∷ xs) e h = ap (λ l. y ∷ l) (set-filled n m at blank x xs (omega (arith, e)) (omega arith))

-- ---- how far a loop has filled registers up to an end

pub record FillsTo {A : Type 0} (blank : A) (before now : List A) (counter end : ℕ) : Type 0 where
  pub filled_so_far : now ≡ filled counter blank before
  pub behind : length before ≤ counter
  pub within : counter ≤ max end (length before)

pub FillsTo-start : {A : Type 0} (blank : A) (before : List A) (counter end : ℕ) → counter ≡ length before → FillsTo blank before before counter end
FillsTo-start blank before counter end e = record {
  filled_so_far = sym (filled-enough counter blank before (omega (arith, e)));
  behind = omega (arith, e);
  within = omega (arith, e);
}

pub FillsTo-next : {A : Type 0} (blank : A) (before now next : List A) (counter m end : ℕ) → m ≡ counter + 1 → counter < end → next ≡ now ++ blank ∷ [] → FillsTo blank before now counter end
    → FillsTo blank before next m end
FillsTo-next blank before now next counter m end e lt n h = record {
  filled_so_far = n ∙ ap (λ l. l ++ blank ∷ []) h.filled_so_far ∙ filled-push counter m blank before e h.behind;
  behind = omega (arith, h.behind, e);
  within = omega (arith, lt, e);
}

pub FillsTo-length : {A : Type 0} (blank : A) (before now : List A) (counter end : ℕ) → FillsTo blank before now counter end → length now ≡ counter
FillsTo-length blank before now counter end h = ap length h.filled_so_far ∙ length-filled counter blank before h.behind

pub FillsTo-end : {A : Type 0} (blank : A) (before now : List A) (counter end : ℕ) → end ≤ counter → FillsTo blank before now counter end → now ≡ filled end blank before
FillsTo-end blank before now counter end le h = go (nat_le end (length before)) refl where
  go : (b : Bool) → nat_le end (length before) ≡ b → now ≡ filled end blank before
  go true t =
      let all : counter ≡ length before = omega (arith, le, h.behind, h.within, leb-true end (length before) t) in
      h.filled_so_far ∙ ap (λ (n : ℕ). filled n blank before) all ∙ filled-enough (length before) blank before (omega arith) ∙ sym (filled-enough end blank before (leb-true end (length before) t))
  go false t =
      let all : counter ≡ end = omega (arith, le, h.behind, h.within, leb-false end (length before) t) in
      h.filled_so_far ∙ ap (λ (n : ℕ). filled n blank before) all

pub FillsTo-few : {A : Type 0} (most : ℕ) (blank : A) (before now : List A) (counter end : ℕ) → end ≤ most → FillsTo blank before now counter end → length before ≤ most → length now ≤ most
FillsTo-few most blank before now counter end le h few = omega (arith, FillsTo-length blank before now counter end h, h.within, le, few)

pub AllByRecursion-filled : {A : Type 0} (P : A → Type 0) (n : ℕ) (blank : A) (xs : List A) → P blank → AllByRecursion P xs → AllByRecursion P (filled n blank xs)
AllByRecursion-filled P zero blank xs b h = h
AllByRecursion-filled P (suc n) blank [] b h = (b, AllByRecursion-filled P n blank [] b tt)
AllByRecursion-filled P (suc n) blank (x ∷ xs) b h = (h.0, AllByRecursion-filled P n blank xs b h.1)

pub FillsTo-all : {A : Type 0} (P : A → Type 0) (blank : A) (before now : List A) (counter end : ℕ) → P blank → FillsTo blank before now counter end → AllByRecursion P before → AllByRecursion P now
FillsTo-all P blank before now counter end b h all = subst (AllByRecursion P) (sym h.filled_so_far) (AllByRecursion-filled P counter blank before b all)

-- ---- what one register has

get_or-beyond : {A : Type 0} (xs : List A) (at : ℕ) (other : A) → length xs ≤ at → get_or xs at other ≡ other
get_or-beyond [] at other h = refl
get_or-beyond (x ∷ xs) zero other h = absurd (omega arith)
get_or-beyond (x ∷ xs) (suc at) other h = get_or-beyond xs at other (omega arith)

get_or-within : {A : Type 0} (xs : List A) (at : ℕ) (one other : A) → at < length xs → get_or xs at one ≡ get_or xs at other
get_or-within [] at one other h = absurd (omega arith)
get_or-within (x ∷ xs) zero one other h = refl
get_or-within (x ∷ xs) (suc at) one other h = get_or-within xs at one other (omega arith)

pub get_or-unset : {A : Type 0} (n at : ℕ) (blank other : A) (xs : List A) → at < n → length xs ≤ at → get_or (filled n blank xs) at other ≡ blank
get_or-unset n at blank other xs lt h = get_or-filled n at blank other xs lt ∙ get_or-beyond xs at blank h

pub get_or-held : {A : Type 0} (n at : ℕ) (blank other x : A) (xs : List A) → at < n → at < length xs → x ≡ get_or xs at x → x ≡ get_or (filled n blank xs) at other
get_or-held n at blank other x xs lt h e = e ∙ get_or-within xs at x blank h ∙ sym (get_or-filled n at blank other xs lt)
