-- The records of a key are those of its group, and the keys are those of the groups.
use Rattle.std.proofs.Common.{◌≡◌, ◌<◌, ◌||◌, ℕ, zero, suc, Bool, true, false, cond, List, [], ◌∷◌, ◌++◌, length, map, get_or, refl, ap, sym, ◌∙◌, subst, arith, append-nil}
use Rattle.std.specs.Prelude.{◌==◌}
use Rattle.std.specs.Ordering.{is_eq, ordering_index}
use Rattle.std.specs.declared.cmp.Ordering.{Ordering}
use Rattle.std.specs.declared.cmp.Ordering.TheVariants.{Less, Equal, Greater}
use Rattle.std.specs.List.{AllByRecursion}
use Rattle.std.specs.List.Sorted.{IsPermutation}
use Rattle.std.proofs.lemmas.Bool.{both_ways, false_from_ne_true, or_parts}
use Rattle.std.proofs.lemmas.List.{map-append}
use Rattle.std.proofs.lemmas.List.Elements.{filter-append}
use Rattle.std.proofs.lemmas.List.Folds.{list_any-append}
use Rattle.pact_bag.specs.Groups.{distinct_keys, group_of_key, is_same_key}
use Rattle.pact_bag.proofs.KeyGroups.{key_itself, occurs, same_keys}
use Rattle.pact_bag.proofs.KeyLists.{AreOnce-distinct_keys, occurs-distinct_keys, same_members}
use Rattle.pact_record.specs.declared.values.Value.{Value}
use Rattle.pact_record.specs.Record.{key_of, record_cmp}
use Rattle.pact_record.proofs.Permutations.{to_permutation}
use Rattle.local_strategy.specs.Grouped.{AreGroups, IsGroup, first_key, order_of, rows_of}

pub unlike : (j k : List Value) → is_same_key j k ≡ false → is_same_key k j ≡ false
unlike j k h = false_from_ne_true (is_same_key k j) (λ e. both_ways (is_same_key j k) h (ap (λ i. is_same_key i k) (sym (same_keys k j e)) ∙ key_itself k))

group-all : (keys : List ℕ) (k : List Value) (group : List (List Value)) → AllByRecursion (λ row. key_of keys row ≡ k) group → group_of_key keys group k ≡ group
group-all keys k [] h = refl
group-all keys k (row ∷ group) h =
    ap (λ b. cond b (row ∷ group_of_key keys group k) (group_of_key keys group k)) (ap (λ j. is_same_key j k) h.0 ∙ key_itself k) ∙ ap (λ l. row ∷ l) (group-all keys k group h.1)

group-none : (keys : List ℕ) (j k : List Value) (group : List (List Value)) → is_same_key j k ≡ false → AllByRecursion (λ row. key_of keys row ≡ j) group → group_of_key keys group k ≡ []
group-none keys j k [] f h = refl
group-none keys j k (row ∷ group) f h =
    ap (λ b. cond b (row ∷ group_of_key keys group k) (group_of_key keys group k)) (ap (λ i. is_same_key i k) h.0 ∙ f) ∙ group-none keys j k group f h.1

-- no record has a key without a group
pub group_absent : (keys : List ℕ) (groups : List (List (List Value))) (k : List Value) → AllByRecursion (IsGroup keys) groups → occurs k (order_of keys groups) ≡ false → group_of_key keys (rows_of groups) k ≡ []
group_absent keys [] k h o = refl
group_absent keys (g ∷ gs) k h o =
    let parts = or_parts (is_same_key (first_key keys g) k) (occurs k (order_of keys gs)) o in
    filter-append (λ row. is_same_key (key_of keys row) k) g (rows_of gs)
    ∙ (λ i. group-none keys (first_key keys g) k g parts.0 h.0.same i ++ group_absent keys gs k h.1 parts.1 i)

occurs-at : (ks : List (List Value)) (n : ℕ) (k d : List Value) → n < length ks → occurs k ks ≡ false → is_same_key (get_or ks n d) k ≡ false
occurs-at [] n k d lt o = absurd (omega (arith, lt))
occurs-at (j ∷ ks) zero k d lt o = (or_parts (is_same_key j k) (occurs k ks) o).0
occurs-at (j ∷ ks) (suc n) k d lt o = occurs-at ks n k d (omega (arith, lt)) (or_parts (is_same_key j k) (occurs k ks) o).1

pub order-at : (keys : List ℕ) (groups : List (List (List Value))) (n : ℕ) → n < length groups → get_or (order_of keys groups) n [] ≡ first_key keys (get_or groups n [])
order-at keys [] n lt = absurd (omega (arith, lt))
order-at keys (g ∷ gs) zero lt = refl
order-at keys (g ∷ gs) (suc n) lt = order-at keys gs n (omega (arith, lt))

pub length-order : (keys : List ℕ) (groups : List (List (List Value))) → length (order_of keys groups) ≡ length groups
length-order keys [] = refl
length-order keys (g ∷ gs) = ap suc (length-order keys gs)

-- the records of a group's key are the group
pub group_present : (keys : List ℕ) (groups : List (List (List Value))) (n : ℕ) (k : List Value) → AreGroups keys groups → n < length groups → first_key keys (get_or groups n []) ≡ k
    → group_of_key keys (rows_of groups) k ≡ get_or groups n []
group_present keys [] n k h lt e = absurd (omega (arith, lt))
group_present keys (g ∷ gs) zero k h lt e =
    filter-append (λ row. is_same_key (key_of keys row) k) g (rows_of gs)
    ∙ (λ i. group-all keys k g (subst (λ j. AllByRecursion (λ row. key_of keys row ≡ j) g) e h.each.0.same) i ++ group_absent keys gs k h.each.1 (ap (λ j. occurs j (order_of keys gs)) (sym e) ∙ h.once.0) i)
    ∙ append-nil g
group_present keys (g ∷ gs) (suc n) k h lt e =
    let within : n < length gs = omega (arith, lt) in
    let other = occurs-at (order_of keys gs) n (first_key keys g) [] (subst (λ l. n < l) (sym (length-order keys gs)) within) h.once.0 in
    let j = order-at keys gs n within ∙ e in
    filter-append (λ row. is_same_key (key_of keys row) k) g (rows_of gs)
    ∙ (λ i. group-none keys (first_key keys g) k g (unlike k (first_key keys g) (ap (λ (a : List Value). is_same_key a (first_key keys g)) (sym j) ∙ other)) h.each.0.same i
    ++ group_present keys gs n k (record { each = h.each.1; once = h.once.1 }) within e i)

-- ---- the keys

same-occurs : (keys : List ℕ) (j k : List Value) (group : List (List Value)) → AllByRecursion (λ row. key_of keys row ≡ j) group → 0 < length group → occurs k (map (key_of keys) group) ≡ is_same_key j k
same-occurs keys j k [] h some = absurd (omega (arith, some))
same-occurs keys j k (row ∷ []) h some = ap (λ i. is_same_key i k || false) h.0 ∙ by (is_same_key j k) where
  by : (b : Bool) → (b || false) ≡ b
  by true = refl
  by false = refl
same-occurs keys j k (row ∷ next ∷ group) h some = ap (λ i. is_same_key i k || occurs k (map (key_of keys) (next ∷ group))) h.0
    ∙ ap (λ b. is_same_key j k || b) (same-occurs keys j k (next ∷ group) h.1 (omega arith)) ∙ by (is_same_key j k) where
      by : (b : Bool) → (b || b) ≡ b
      by true = refl
      by false = refl

keys-occur : (keys : List ℕ) (groups : List (List (List Value))) (k : List Value) → AllByRecursion (IsGroup keys) groups → occurs k (map (key_of keys) (rows_of groups)) ≡ occurs k (order_of keys groups)
keys-occur keys [] k h = refl
keys-occur keys (g ∷ gs) k h =
    ap (occurs k) (map-append (key_of keys) g (rows_of gs)) ∙ list_any-append (λ j. is_same_key j k) (map (key_of keys) g) (map (key_of keys) (rows_of gs))
    ∙ (λ i. same-occurs keys (first_key keys g) k g h.0.same h.0.some i || keys-occur keys gs k h.1 i)

-- each key of the records is the key of one group
pub groups_have_keys : (keys : List ℕ) (groups : List (List (List Value))) → AreGroups keys groups → IsPermutation (distinct_keys (map (key_of keys) (rows_of groups))) (order_of keys groups)
groups_have_keys keys groups h =
    let ks = map (key_of keys) (rows_of groups) in
    to_permutation (same_members (distinct_keys ks) (order_of keys groups) (AreOnce-distinct_keys ks) h.once
    (λ k is. occurs-distinct_keys k ks ∙ keys-occur keys groups k h.each ∙ is)
    (λ k is. sym (keys-occur keys groups k h.each) ∙ sym (occurs-distinct_keys k ks) ∙ is))

-- ---- two keys compared

same_by_index : (o : Ordering) → (ordering_index o == 1) ≡ is_eq o
same_by_index Less = refl
same_by_index Equal = refl
same_by_index Greater = refl

pub equal_keys : (a b : List Value) (o : Ordering) → o ≡ record_cmp a b → (ordering_index o == 1) ≡ true → a ≡ b
equal_keys a b o e h = same_keys a b (ap is_eq (sym e) ∙ sym (same_by_index o) ∙ h)

pub other_keys : (a b : List Value) (o : Ordering) → o ≡ record_cmp a b → (ordering_index o == 1) ≡ false → is_same_key a b ≡ false
other_keys a b o e h = ap is_eq (sym e) ∙ sym (same_by_index o) ∙ h
