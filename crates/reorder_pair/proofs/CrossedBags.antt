-- Two functions of pairs with disjoint sets yield the same bag for three bags in either order, and so does a function
-- of one record.
use Rattle.std.proofs.Common.{◌≡◌, ℕ, [], ◌∷◌, ◌++◌, replicate, refl, sym, ap, append-nil}
use Rattle.std.proofs.lemmas.List.{length-replicate}
use Rattle.std.specs.Prelude.{flat_map}
use Rattle.std.specs.List.{AllByRecursion}
use Rattle.pact_record.specs.declared.values.Value.TheVariants.{Null}
use Rattle.pact_record.proofs.JoinedRecords.{at_field-nulls}
use Rattle.pact_record.proofs.Permutations.{Perm, chains, each_moved, flat_map_flat_map, flat_map_perm, is_same, turn}
use Rattle.tac_syntax.specs.Forms.{IsWithin}
use Rattle.pact_operators.specs.Allowed.{Bag}
use Rattle.pact_bag.specs.Pairs.{crossed}
use Rattle.reorder_pair.proofs.CallsInEitherOrder.{AreExchangeable, for_three}
use Rattle.reorder_pair.proofs.FunctionForms.{Row, none, on_left_alone, on_right_alone, turned_pair}
use Rattle.reorder_pair.proofs.PermittedExchanges.{UsedFields}

-- ---- two functions of pairs

module _ (fields : ℕ) (a b c gl gr hl hr : ℕ → Type 0) (lower upper : UsedFields) (g h : Row → Row → Bag) (x : AreExchangeable fields a b c gl gr hl hr lower upper g h)
    (ms rs : Bag) (fm : AllByRecursion (IsWithin fields b) ms) (fr : AllByRecursion (IsWithin fields c) rs) where
  for_two : (l : Row) → IsWithin fields a l → (m : Row) → IsWithin fields b m → Perm (flat_map (λ o. flat_map (h o) rs) (g l m)) (flat_map (g l) (flat_map (h m) rs))
  for_two l fl m fm1 =
      chains (turn (λ o r. h o r) (g l m) rs)
      (chains (each_moved (IsWithin fields c) (λ r. flat_map (λ o. h o r) (g l m)) (λ r. flat_map (λ z. g l z) (h m r)) rs fr
      (λ r k. for_three fields a b c gl gr hl hr lower upper g h x l m r fl fm1 k))
      (is_same (sym (flat_map_flat_map (g l) (h m) rs))))

  for_one : (l : Row) → IsWithin fields a l → Perm (flat_map (λ o. flat_map (h o) rs) (flat_map (g l) ms)) (flat_map (g l) (crossed h ms rs))
  for_one l fl =
      chains (is_same (flat_map_flat_map (λ o. flat_map (h o) rs) (g l) ms))
      (chains (each_moved (IsWithin fields b) (λ m. flat_map (λ o. flat_map (h o) rs) (g l m)) (λ m. flat_map (g l) (flat_map (h m) rs)) ms fm (λ m k. for_two l fl m k))
      (is_same (sym (flat_map_flat_map (g l) (λ m. flat_map (h m) rs) ms))))

  pub rotated_bags : (ls : Bag) → AllByRecursion (IsWithin fields a) ls → Perm (crossed h (crossed g ls ms) rs) (crossed g ls (crossed h ms rs))
  rotated_bags ls fl =
      chains (is_same (flat_map_flat_map (λ o. flat_map (h o) rs) (λ l. flat_map (g l) ms) ls))
      (each_moved (IsWithin fields a) (λ l. flat_map (λ o. flat_map (h o) rs) (flat_map (g l) ms)) (λ l. flat_map (g l) (crossed h ms rs)) ls fl (λ l k. for_one l k))

-- ---- a function of one record, as one of pairs with an empty record

empty : ℕ → Row
empty fields = replicate fields Null

empty_fits : (fields : ℕ) → IsWithin fields none (empty fields)
unfolding empty
empty_fits fields = record { width = length-replicate fields Null; null = λ i out. at_field-nulls fields i }

one_right : (f : Row → Bag) (e : Row) (xs : Bag) → crossed (on_left_alone f) xs (e ∷ []) ≡ flat_map f xs
one_right f e [] = refl
one_right f e (x ∷ xs) = λ i. append-nil (f x) i ++ one_right f e xs i

one_left : (f : Row → Bag) (e : Row) (xs : Bag) → crossed (on_right_alone f) (e ∷ []) xs ≡ flat_map f xs
one_left f e xs = append-nil (flat_map f xs)

module _ (fields : ℕ) where
  pub map_right_bags : (a b gl gr hl : ℕ → Type 0) (lower upper : UsedFields) (g : Row → Row → Bag) (f : Row → Bag) → AreExchangeable fields a b none gl gr hl none lower upper g (on_left_alone f)
      → (ls ms : Bag) → AllByRecursion (IsWithin fields a) ls → AllByRecursion (IsWithin fields b) ms → Perm (flat_map f (crossed g ls ms)) (crossed g ls (flat_map f ms))
  map_right_bags a b gl gr hl lower upper g f x ls ms fl fm =
      chains (is_same (sym (one_right f (empty fields) (crossed g ls ms))))
      (chains (rotated_bags fields a b none gl gr hl none lower upper g (on_left_alone f) x ms (empty fields ∷ []) fm (empty_fits fields, tt) ls fl)
      (is_same (ap (crossed g ls) (one_right f (empty fields) ms))))

  pub map_left_bags : (a b gl gr hl : ℕ → Type 0) (lower upper : UsedFields) (g : Row → Row → Bag) (f : Row → Bag) → AreExchangeable fields a b none gl gr hl none lower upper (turned_pair g) (on_left_alone f)
      → (ms rs : Bag) → AllByRecursion (IsWithin fields b) ms → AllByRecursion (IsWithin fields a) rs → Perm (flat_map f (crossed g ms rs)) (crossed g (flat_map f ms) rs)
  map_left_bags a b gl gr hl lower upper g f x ms rs fm fr =
      chains (flat_map_perm f (turn (λ m r. g m r) ms rs))
      (chains (map_right_bags a b gl gr hl lower upper (turned_pair g) f x rs ms fr fm)
      (turn (λ r m. g m r) rs (flat_map f ms)))

  pub map_map_bags : (b gr hl : ℕ → Type 0) (lower upper : UsedFields) (g f : Row → Bag) → AreExchangeable fields none b none none gr hl none lower upper (on_right_alone g) (on_left_alone f)
      → (ms : Bag) → AllByRecursion (IsWithin fields b) ms → Perm (flat_map f (flat_map g ms)) (flat_map g (flat_map f ms))
  map_map_bags b gr hl lower upper g f x ms fm =
      chains (is_same (ap (flat_map f) (sym (one_left g (empty fields) ms))))
      (chains (map_right_bags none b none gr hl lower upper (on_right_alone g) f x (empty fields ∷ []) ms (empty_fits fields, tt) fm)
      (is_same (one_left g (empty fields) (flat_map f ms))))
