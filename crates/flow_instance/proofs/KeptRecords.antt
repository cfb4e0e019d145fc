-- Records that are kept one by one.
use Rattle.std.proofs.Common.{◌≡◌, ◌++◌, ◌∷◌, [], ℕ, Bool, true, false, cond, List, length, ap, sym, ◌∙◌, append_assoc, append-nil}
use Rattle.std.specs.Prelude.{filter}
use Rattle.std.specs.List.Sorted.{IsPermutation}
use Rattle.std.proofs.lemmas.List.Elements.{filter-append}
use Rattle.std.proofs.lemmas.List.Sorted.{IsPermutation-refl}
use Rattle.flow_instance.proofs.Bags.{beside, is_same, joined}
use Rattle.pact_operators.specs.Allowed.{Bag}
use Rattle.pact_record.proofs.Lists.{AllByRecursion-append, AllByRecursion-filter}
use Rattle.pact_record.proofs.Permutations.{each_perm, from_permutation}
use Rattle.pact_record.specs.Widths.{AreWide}
use Rattle.pact_record.specs.declared.values.Value.{Value}
use Rattle.flow_instance.specs.Keeping.{IsKept, IsRowKept, may_match}

pub wide_permuted : (fields : ℕ) (xs ys : Bag) → IsPermutation xs ys → AreWide fields xs → AreWide fields ys
wide_permuted fields xs ys p h = each_perm (λ (r : List Value). length r ≡ fields) (from_permutation xs ys p) h

pub none_kept : {L : Type 0} (rows : L → Bag) (keys : L → List ℕ) (is_sealed : L → Bool) (fields : ℕ) (first : L) → is_sealed first ≡ false → AreWide fields (rows first) → IsKept rows keys is_sealed fields [] first first
none_kept rows keys is_sealed fields first s wide = record { kept = is_same (append-nil (rows first)); same = λ i. keys first; not_sealed = s; wide = wide }

-- a row that may match is added, and another row isn't
pub row_added : {L : Type 0} (rows : L → Bag) (keys : L → List ℕ) (is_sealed : L → Bool) (may : List Value → Bool) (row : List Value) (old new : L) → may row ≡ true → IsPermutation (rows old ++ row ∷ []) (rows new) → keys new ≡ keys old
    → is_sealed new ≡ false → IsRowKept rows keys is_sealed may row old new
row_added rows keys is_sealed may row old new e p k s = record { kept = joined (is_same (ap (λ (b : Bool). rows old ++ cond b (row ∷ []) []) e)) p; same = k; not_sealed = s }

pub row_passed : {L : Type 0} (rows : L → Bag) (keys : L → List ℕ) (is_sealed : L → Bool) (may : List Value → Bool) (row : List Value) (old : L) → may row ≡ false → is_sealed old ≡ false → IsRowKept rows keys is_sealed may row old old
row_passed rows keys is_sealed may row old e s = record { kept = is_same (ap (λ (b : Bool). rows old ++ cond b (row ∷ []) []) e ∙ append-nil (rows old)); same = λ i. keys old; not_sealed = s }

-- one more row, which is kept if it may match
pub row_kept : {L : Type 0} (rows : L → Bag) (keys : L → List ℕ) (is_sealed : L → Bool) (fields : ℕ) (may : List Value → Bool) (done : Bag) (row : List Value) (first old new : L) → length row ≡ fields → IsRowKept rows keys is_sealed may row old new
    → IsKept rows keys is_sealed fields (filter may done) first old → IsKept rows keys is_sealed fields (filter may (done ++ row ∷ [])) first new
row_kept rows keys is_sealed fields may done row first old new width k h =
    let one = filter may (row ∷ []) in
    record {
      kept = joined (is_same (ap (λ (l : Bag). rows first ++ l) (filter-append may done (row ∷ [])) ∙ sym (append_assoc (rows first) (filter may done) one))) (joined (beside h.kept (IsPermutation-refl one)) k.kept);
      same = k.same ∙ h.same;
      not_sealed = k.not_sealed;
      wide = wide_permuted fields (rows old ++ one) (rows new) k.kept
          (AllByRecursion-append (λ (r : List Value). length r ≡ fields) (rows old) one h.wide (AllByRecursion-filter (λ (r : List Value). length r ≡ fields) may (row ∷ []) (width, tt)));
    }

-- if all rows may match, all are kept
pub all_chosen : (keys : List ℕ) (rows : Bag) → filter (may_match true keys) rows ≡ rows
all_chosen keys [] = λ i. []
all_chosen keys (row ∷ rows) = ap (λ (rest : Bag). row ∷ rest) (all_chosen keys rows)
