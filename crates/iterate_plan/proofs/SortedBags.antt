-- Bags are equal exactly if their sorted lists are.
use Rattle.std.proofs.Common.{Bor, ◌≡◌, ◌<◌, ◌+◌, true, List, [], ◌∷◌, length, map, ap, subst, ◌∙◌, arith}
use Rattle.std.specs.Bool.{Decides}
use Rattle.std.specs.List.Sorted.{IsPermutation, IsSorted}
use Rattle.std.specs.Ordering.{eq_by_cmp, is_eq, is_lt}
use Rattle.std.proofs.lemmas.List.{get_or-map, length-map}
use Rattle.std.proofs.lemmas.List.Sorted.{IsPermutation-map, IsPermutation-sym, IsPermutation-trans}
use Rattle.pact_record.specs.declared.values.Value.{Value}
use Rattle.pact_record.specs.Order.{records_total}
use Rattle.pact_record.specs.Record.{record_cmp}
use Rattle.pact_record.proofs.Permutations.{from_permutation}
use Rattle.pact_record.proofs.SortedLists.{one_sorted}
use Rattle.pact_bag.proofs.KeyGroups.{key_itself, same_keys}

-- ---- records by reference

-- a permutation of references is one of the records
pub permuted_refs : (rows : List (List Value)) (old new : List (Bor (List Value))) → map (λ r. r.now) old ≡ rows → IsPermutation old new
    → IsPermutation rows (map (λ r. r.now) new)
permuted_refs rows old new e p =
    subst (λ (l : List (List Value)). IsPermutation l (map (λ r. r.now) new)) e (IsPermutation-map (λ r. r.now) old new p)

-- sorted references are sorted records
pub sorted_refs : (refs : List (Bor (List Value))) → IsSorted (λ a b. record_cmp a.now b.now) refs → IsSorted record_cmp (map (λ r. r.now) refs)
sorted_refs [] up k d from below = absurd (omega (arith, below))
sorted_refs (r ∷ refs) up k d from below =
    let next : k + 1 < length (r ∷ refs) = omega (arith, below, length-map (r ∷ refs) (λ s. s.now)) in
    let this : k < length (r ∷ refs) = omega (arith, next) in
    let second = get_or-map (λ s. s.now) (r ∷ refs) (k + 1) r d next in
    let first = get_or-map (λ s. s.now) (r ∷ refs) k r d this in
    (λ i. is_lt (record_cmp (second i) (first i))) ∙ up k r from next

-- ---- sorted lists

-- the test of two records decides whether they are equal
pub Decides-record : (a b : List Value) → Decides (eq_by_cmp record_cmp a b) (a ≡ b)
Decides-record a b = (λ e. same_keys a b e, λ e. subst (λ (r : List Value). eq_by_cmp record_cmp a r ≡ true) e (key_itself a))

-- equal bags have the same sorted list
pub sorted_same : (a b left right : List (List Value)) → IsPermutation a left → IsPermutation b right → IsSorted record_cmp left
    → IsSorted record_cmp right → IsPermutation a b → left ≡ right
sorted_same a b left right p q up other_up h =
    let both = IsPermutation-trans left a right (IsPermutation-sym a left p) (IsPermutation-trans a b right h q) in
    one_sorted records_total (λ x y e. same_keys x y (ap is_eq e)) left right (from_permutation left right both) up other_up

-- and bags that can be reordered to one list are equal
pub same_moved : (a b left right : List (List Value)) → IsPermutation a left → IsPermutation b right → left ≡ right → IsPermutation a b
same_moved a b left right p q e =
    IsPermutation-trans a right b (subst (λ (l : List (List Value)). IsPermutation a l) e p) (IsPermutation-sym b right q)
