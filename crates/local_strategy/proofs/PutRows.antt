-- Groups with one more row.
use Rattle.std.proofs.Common.{◌≡◌, ◌<◌, ◌||◌, ℕ, zero, suc, false, List, [], ◌∷◌, ◌++◌, length, get_or, refl, ap, sym, ◌∙◌, subst, arith, append_assoc, Option, Some, None}
use Rattle.std.specs.Prelude.{slice_get, slice_set, OnErr, OnOk}
use Rattle.std.specs.declared.result.Result.{Result}
use Rattle.std.specs.declared.result.Result.TheVariants.{Ok, Err}
use Rattle.std.specs.List.{AllByRecursion}
use Rattle.std.specs.List.Sorted.{IsPermutation}
use Rattle.std.proofs.lemmas.Bool.{or_parts}
use Rattle.std.proofs.lemmas.List.{get_or_default, length-append, map-append}
use Rattle.std.proofs.lemmas.List.Folds.{list_any-append}
use Rattle.std.proofs.lemmas.List.Elements.{All-from_recursion, recursion_from_All}
use Rattle.std.proofs.lemmas.List.Sorted.{All-permutation}
use Rattle.std.proofs.Math.Seq.{map-set_same}
use Rattle.pact_bag.specs.Groups.{is_same_key}
use Rattle.pact_bag.proofs.KeyGroups.{occurs}
use Rattle.pact_bag.proofs.KeyLists.{AreOnce}
use Rattle.pact_record.specs.declared.values.Value.{Value}
use Rattle.pact_record.specs.Record.{key_of}
use Rattle.pact_record.proofs.Lists.{AllByRecursion-last, AllByRecursion-left, AllByRecursion-right}
use Rattle.pact_record.proofs.Permutations.{Perm, before, chains, crossed_over, flat_map-append, is_same, to_permutation}
use Rattle.local_strategy.specs.Grouped.{AreAllBelow, AreGroups, AreHeld, IsFound, IsGroup, IsPut, first_key, order_of, rows_of}
use Rattle.local_strategy.proofs.GroupLaws.{length-order, order-at, unlike}

all-set : {X : Type 0} (P : X → Type 0) (xs : List X) (n : ℕ) (x : X) → AllByRecursion P xs → P x → AllByRecursion P (slice_set xs n x)
all-set P [] n x h p = tt
all-set P (y ∷ xs) zero x h p = (p, h.1)
all-set P (y ∷ xs) (suc n) x h p = (h.0, all-set P xs n x h.1 p)

pub group-at : (keys : List ℕ) (gs : List (List (List Value))) (n : ℕ) → n < length gs → AllByRecursion (IsGroup keys) gs → IsGroup keys (get_or gs n [])
group-at keys [] n lt h = absurd (omega (arith, lt))
group-at keys (g ∷ gs) zero lt h = h.0
group-at keys (g ∷ gs) (suc n) lt h = group-at keys gs n (omega (arith, lt)) h.1

grown-first : (keys : List ℕ) (g : List (List Value)) (row : List Value) → 0 < length g → first_key keys (g ++ row ∷ []) ≡ first_key keys g
grown-first keys [] row some = absurd (omega (arith, some))
grown-first keys (r ∷ g) row some = refl

grown-group : (keys : List ℕ) (g : List (List Value)) (row : List Value) → IsGroup keys g → key_of keys row ≡ first_key keys g → IsGroup keys (g ++ row ∷ [])
grown-group keys g row h e = record {
  some = let n = length-append g (row ∷ []) in omega (arith, n);
  same = subst (λ k. AllByRecursion (λ row. key_of keys row ≡ k) (g ++ row ∷ [])) (sym (grown-first keys g row h.some)) (AllByRecursion-last (λ row. key_of keys row ≡ first_key keys g) g row h.same e);
}

rows-set : (gs : List (List (List Value))) (n : ℕ) (row : List Value) → n < length gs → Perm (rows_of gs ++ row ∷ []) (rows_of (slice_set gs n (get_or gs n [] ++ row ∷ [])))
rows-set [] n row lt = absurd (omega (arith, lt))
rows-set (g ∷ gs) zero row lt =
    chains (is_same (append_assoc g (rows_of gs) (row ∷ []))) (chains (before g (crossed_over (rows_of gs) (row ∷ []))) (is_same (sym (append_assoc g (row ∷ []) (rows_of gs)))))
rows-set (g ∷ gs) (suc n) row lt = chains (is_same (append_assoc g (rows_of gs) (row ∷ []))) (before g (rows-set gs n row (omega (arith, lt))))

pub put_known : (keys : List ℕ) (row : List Value) (n : ℕ) (gs more : List (List (List Value))) → AreGroups keys gs → IsFound (order_of keys gs) (key_of keys row) (Some n)
    → more ≡ slice_set gs n (get_or gs n [] ++ row ∷ []) → IsPut keys row (Some n) gs more
put_known keys row n gs more h f m = subst (IsPut keys row (Some n) gs) (sym m) (record {
  groups = record { each = all-set (IsGroup keys) gs n (get_or gs n [] ++ row ∷ []) h.each grown; once = subst AreOnce (sym same) h.once };
  order = same;
  rows = to_permutation (rows-set gs n row lt);
}) where
  lt : n < length gs
  lt = subst (λ l. n < l) (length-order keys gs) f.0

  own : key_of keys row ≡ first_key keys (get_or gs n [])
  own = sym f.1 ∙ order-at keys gs n lt

  grown : IsGroup keys (get_or gs n [] ++ row ∷ [])
  grown = grown-group keys (get_or gs n []) row (group-at keys gs n lt h.each) own

  same : order_of keys (slice_set gs n (get_or gs n [] ++ row ∷ [])) ≡ order_of keys gs
  same = map-set_same (first_key keys) gs n (get_or gs n [] ++ row ∷ []) [] (grown-first keys (get_or gs n []) row (group-at keys gs n lt h.each).some)

once-last : (ks : List (List Value)) (k : List Value) → AreOnce ks → occurs k ks ≡ false → AreOnce (ks ++ k ∷ [])
once-last [] k h o = (refl, tt)
once-last (j ∷ ks) k h o =
    let parts = or_parts (is_same_key j k) (occurs k ks) o in
    (list_any-append (λ i. is_same_key i j) ks (k ∷ []) ∙ (λ i. h.0 i || ((unlike j k parts.0) i || false)), once-last ks k h.1 parts.1)

rows-last : (gs : List (List (List Value))) (row : List Value) → rows_of gs ++ row ∷ [] ≡ rows_of (gs ++ (row ∷ []) ∷ [])
rows-last gs row = sym (flat_map-append (λ g. g) gs ((row ∷ []) ∷ []))

pub put_new : (keys : List ℕ) (row : List Value) (gs more : List (List (List Value))) → AreGroups keys gs → IsFound (order_of keys gs) (key_of keys row) None
    → more ≡ gs ++ (row ∷ []) ∷ [] → IsPut keys row None gs more
put_new keys row gs more h f m = subst (IsPut keys row None gs) (sym m) (record {
  groups = record {
    each = AllByRecursion-last (IsGroup keys) gs (row ∷ []) h.each (record { some = omega arith; same = (refl, tt) });
    once = subst AreOnce (sym grown) (once-last (order_of keys gs) (key_of keys row) h.once f);
  };
  order = grown;
  rows = to_permutation (is_same (rows-last gs row));
}) where
  grown : order_of keys (gs ++ (row ∷ []) ∷ []) ≡ order_of keys gs ++ key_of keys row ∷ []
  grown = map-append (first_key keys) gs ((row ∷ []) ∷ [])

-- a property of all rows holds for those of each group
pub of_group : (P : List Value → Type 0) (gs : List (List (List Value))) (n : ℕ) → AllByRecursion P (rows_of gs) → AllByRecursion P (get_or gs n [])
of_group P [] zero h = tt
of_group P [] (suc n) h = tt
of_group P (g ∷ gs) zero h = AllByRecursion-left P g (rows_of gs) h
of_group P (g ∷ gs) (suc n) h = of_group P gs n (AllByRecursion-right P g (rows_of gs) h)

pub on_ok_one : {T E P S : Type 0} (r : Result T E) → (P → S) → OnOk r P → OnOk r S
on_ok_one (Ok x) f p = f p
on_ok_one (Err e) f p = tt

all-permutation : {X : Type 0} (P : X → Type 0) (xs ys : List X) → IsPermutation xs ys → AllByRecursion P xs → AllByRecursion P ys
all-permutation P xs ys p h = recursion_from_All P ys (All-permutation P xs ys p (All-from_recursion P xs h))

-- a property of all rows and of one more row holds for the rows with it
pub all_put : (P : List Value → Type 0) (keys : List ℕ) (row : List Value) (found : Option ℕ) (gs more : List (List (List Value))) → IsPut keys row found gs more → AllByRecursion P (rows_of gs) → P row → AllByRecursion P (rows_of more)
all_put P keys row found gs more put h p = all-permutation P (rows_of gs ++ row ∷ []) (rows_of more) put.rows (AllByRecursion-last P (rows_of gs) row h p)

abbrev or_nil : Option (List Value) → List Value
or_nil None = []
or_nil (Some r) = r

group-is : (gs : List (List (List Value))) (n : ℕ) (group : List (List Value)) → n < length gs → group ≡ get_or gs n group → group ≡ get_or gs n []
group-is gs n group lt e = e ∙ get_or_default gs n group [] lt

pub some_first : (keys : List ℕ) (gs : List (List (List Value))) (n : ℕ) (group : List (List Value)) → n < length gs → AllByRecursion (IsGroup keys) gs → group ≡ get_or gs n group → 0 < length group
some_first keys gs n group lt each e = subst (λ (g : List (List Value)). 0 < length g) (sym (group-is gs n group lt e)) (group-at keys gs n lt each).some

-- the key fields are fields of the first row of a group
pub first_below : (keys : List ℕ) (gs : List (List (List Value))) (n : ℕ) (group : List (List Value)) (row : List Value) → n < length gs → AllByRecursion (IsGroup keys) gs → AreAllBelow keys (rows_of gs) → group ≡ get_or gs n group
    → slice_get group 0 ≡ Some row → AllByRecursion (λ k. k < length row) keys
first_below keys gs n group row lt each h g e =
    by group (some_first keys gs n group lt each g) (subst (λ (g : List (List Value)). AllByRecursion (λ row. AllByRecursion (λ k. k < length row) keys) g) (sym (group-is gs n group lt g)) (of_group (λ row. AllByRecursion (λ k. k < length row) keys) gs n h)) e where
      by : (g : List (List Value)) → 0 < length g → AllByRecursion (λ row. AllByRecursion (λ k. k < length row) keys) g → slice_get g 0 ≡ Some row → AllByRecursion (λ k. k < length row) keys
      by [] some h e = absurd (omega (arith, some))
      by (r ∷ g) some h e = subst (λ (r : List Value). AllByRecursion (λ k. k < length r) keys) (ap or_nil e) h.0

-- the first row of a group has its key
pub compared_first : (keys : List ℕ) (gs : List (List (List Value))) (n : ℕ) (group : List (List Value)) (row : List Value) → n < length gs → group ≡ get_or gs n group → slice_get group 0 ≡ Some row → key_of keys row ≡ get_or (order_of keys gs) n []
compared_first keys gs n group row lt g e = by group e ∙ ap (first_key keys) (group-is gs n group lt g) ∙ sym (order-at keys gs n lt) where
  by : (g : List (List Value)) → slice_get g 0 ≡ Some row → key_of keys row ≡ first_key keys g
  by [] e = ap (λ o. key_of keys (or_nil o)) (sym e)
  by (r ∷ g) e = ap (λ o. key_of keys (or_nil o)) (sym e)

pub held_after : (keys : List ℕ) (row : List Value) (found : Option ℕ) (gs more : List (List (List Value))) (none : List (List Value)) {T E : Type 0} (r : Result T E) → AreHeld keys gs none → AllByRecursion (λ k. k < length row) keys
    → OnOk r (IsPut keys row found gs more) → OnErr r (more ≡ gs) → AreHeld keys more none
held_after keys row found gs more none (Ok x) h below put same = record { grouped = put.groups; below = all_put (λ row. AllByRecursion (λ k. k < length row) keys) keys row found gs more put h.below below; empty = h.empty }
held_after keys row found gs more none (Err e) h below put same = subst (λ (g : List (List (List Value))). AreHeld keys g none) (sym same) h
