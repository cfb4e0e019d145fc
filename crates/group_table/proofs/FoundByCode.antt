-- A key among those with its hash code.
use Rattle.std.proofs.Common.{◌≡◌, ◌⊎◌, inl, inr, ◌<◌, ◌≤◌, ◌||◌, ℕ, suc, false, List, [], ◌∷◌, length, map, get_or, refl, ap, sym, ◌∙◌, subst, arith, Option, Some, None}
use Rattle.std.proofs.lemmas.Bool.{both_ways, cases_lt, false_from_ne_true}
use Rattle.std.proofs.lemmas.List.{get_or-map, length-map}
use Rattle.pact_bag.specs.Groups.{is_same_key}
use Rattle.pact_bag.proofs.KeyGroups.{key_itself, occurs, same_keys}
use Rattle.pact_record.specs.declared.values.Value.{Value}
use Rattle.group_table.specs.declared.buckets.Buckets.{Buckets}
use Rattle.group_table.specs.Codes.{code}
use Rattle.group_table.specs.Tables.{IsIndex, IsLastBelow, head_of, next_at}

-- The key at this place has the key's code, and the key isn't at any later place. Without a place, the key isn't at any
-- place.
abbrev pub IsLeft : List (List Value) → List Value → Option ℕ → Type 0
IsLeft order key None = (i : ℕ) → i < length order → get_or order i [] ≡ key → ⊥
IsLeft order key (Some n) = (n < length order) × (code (get_or order n []) ≡ code key) × ((i : ℕ) → n < i → i < length order → get_or order i [] ≡ key → ⊥)

-- the number of places that may still be searched
abbrev pub places : Option ℕ → ℕ
places None = 0
places (Some n) = suc n

-- the codes of keys
code-at : (order : List (List Value)) (n : ℕ) → n < length order → get_or (map code order) n 0 ≡ code (get_or order n [])
code-at order n lt = get_or-map code order n [] 0 lt

length-codes : (order : List (List Value)) → length (map code order) ≡ length order
length-codes order = length-map order code

has-code : (order : List (List Value)) (key : List Value) (c i : ℕ) → code key ≡ c → i < length order → get_or order i [] ≡ key → get_or (map code order) i 0 ≡ c
has-code order key c i own lt e = code-at order i lt ∙ ap code e ∙ own

-- at first every place may still be searched
pub left_all : (buckets : Buckets) (order : List (List Value)) (key : List Value) (c : ℕ) (at : Option ℕ) → IsIndex buckets order → c ≡ code key → at ≡ head_of buckets c → IsLeft order key at
left_all buckets order key c at index own e = by at (subst (IsLastBelow (map code order) c (length (map code order))) (sym e) (index.head c)) where
  by : (at : Option ℕ) → IsLastBelow (map code order) c (length (map code order)) at → IsLeft order key at
  by None h = λ i lt same. h i (subst (λ n. i < n) (sym (length-codes order)) lt) (has-code order key c i (sym own) lt same)
  by (Some n) h =
      let within : n < length order = subst (λ l. n < l) (length-codes order) h.0 in
      (within, sym (code-at order n within) ∙ h.1 ∙ own, λ i more lt same. h.2 i more (subst (λ n. i < n) (sym (length-codes order)) lt) (has-code order key c i (sym own) lt same))

-- this place has another key, so the search goes on to the next place
pub left_next : (buckets : Buckets) (order : List (List Value)) (key : List Value) (n : ℕ) (next : Option ℕ) → IsIndex buckets order → IsLeft order key (Some n) → is_same_key (get_or order n []) key ≡ false
    → next ≡ next_at buckets.nexts.items n → IsLeft order key next
left_next buckets order key n next index left other e =
    by next (subst (IsLastBelow (map code order) (get_or (map code order) n 0) n) (sym e) (index.next n (subst (λ l. n < l) (sym (length-codes order)) left.0))) where
      own : code key ≡ get_or (map code order) n 0
      own = sym (code-at order n left.0 ∙ left.1)

      not_here : (i : ℕ) → i ≡ n → get_or order i [] ≡ key → ⊥
      not_here i at same = both_ways (is_same_key (get_or order n []) key) other (ap (λ j. is_same_key j key) (ap (λ m. get_or order m []) (sym at) ∙ same) ∙ key_itself key)

      later : (i : ℕ) → ((i < n) → ⊥) → i < length order → get_or order i [] ≡ key → ⊥
      later i from lt same = step (cases_lt i n) (cases_lt n i) where
        step : (i < n) ⊎ (n ≤ i) → (n < i) ⊎ (i ≤ n) → ⊥
        step (inl less) b = from less
        step (inr le) (inl more) = left.2 i more lt same
        step (inr le) (inr at) = not_here i (omega (arith, le, at)) same

      by : (next : Option ℕ) → IsLastBelow (map code order) (get_or (map code order) n 0) n next → IsLeft order key next
      by None h = λ i lt same. later i (λ less. h i less (has-code order key (get_or (map code order) n 0) i own lt same)) lt same
      by (Some m) h =
          let within : m < length order = let a = h.0 in let b = left.0 in omega (arith, a, b) in
          (within, sym (code-at order m within) ∙ h.1 ∙ sym own, λ i more lt same. later i (λ less. h.2 i more less (has-code order key (get_or (map code order) n 0) i own lt same)) lt same)

pub left_none : (order : List (List Value)) (key : List Value) → IsLeft order key None → occurs key order ≡ false
left_none [] key h = refl
left_none (k ∷ order) key h = λ i. (false_from_ne_true (is_same_key k key) (λ e. h 0 (omega arith) (same_keys k key e))) i || left_none order key (λ n lt e. h (suc n) (omega (arith, lt)) e) i
