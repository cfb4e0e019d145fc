-- Records of lists of notes, up to order.
use Rattle.std.proofs.Common.{◌≡◌, ◌≢◌, ◌<◌, inl, inr, ◌||◌, ℕ, zero, suc, false, List, [], ◌∷◌, ◌++◌, refl, ap, sym, ◌∙◌, subst, append_assoc, append-nil, arith}
use Rattle.std.specs.Prelude.{flat_map}
use Rattle.std.specs.List.Sorted.{IsPermutation}
use Rattle.std.proofs.lemmas.Bool.{cases_eq}
use Rattle.std.proofs.lemmas.List.Concat.{flat_map-append}
use Rattle.std.proofs.lemmas.List.Sorted.{IsPermutation-refl, IsPermutation-trans, IsPermutation-sym, IsPermutation-append, IsPermutation-append_comm}
use Rattle.pact_operators.specs.Allowed.{Bag}
use Rattle.pact_bag.specs.Pairs.{crossed}
use Rattle.pact_record.specs.declared.values.Value.{Value}
use Rattle.flow_instance.specs.declared.notes.Note.{Note}
use Rattle.flow_instance.specs.declared.notes.Note.TheVariants.{Batch, End}
use Rattle.plan_trees.specs.Sending.{all_of}
use Rattle.plan_trees.proofs.EachWorker.{same_each}
use Rattle.flow_instance.specs.Notes.{AreNotes, IsNote, has_end, rows_of}
use Rattle.flow_instance.specs.Steps.{is_end, note_rows}
use Rattle.pact_record.proofs.Permutations.{from_permutation, to_permutation, flat_map_perm}

-- ---- permutations, with the type argument implicit

pub is_same : {X : Type 0} {xs ys : List X} → xs ≡ ys → IsPermutation xs ys
is_same {X} {xs} {ys} e = subst (IsPermutation xs) e (IsPermutation-refl xs)

pub joined : {X : Type 0} {xs ys zs : List X} → IsPermutation xs ys → IsPermutation ys zs → IsPermutation xs zs
joined {X} {xs} {ys} {zs} p q = IsPermutation-trans xs ys zs p q

pub turned : {X : Type 0} {xs ys : List X} → IsPermutation xs ys → IsPermutation ys xs
turned {X} {xs} {ys} p = IsPermutation-sym xs ys p

pub beside : {X : Type 0} {xs ys us vs : List X} → IsPermutation xs ys → IsPermutation us vs → IsPermutation (xs ++ us) (ys ++ vs)
beside {X} {xs} {ys} {us} {vs} p q = IsPermutation-append xs ys us vs p q

-- (a ++ b) ++ (c ++ d) with the middle ones exchanged
pub regrouped : {X : Type 0} (a b c d : List X) → IsPermutation ((a ++ b) ++ (c ++ d)) ((a ++ c) ++ (b ++ d))
regrouped a b c d =
    joined (is_same (append_assoc a b (c ++ d) ∙ ap (λ (l : List _). a ++ l) (sym (append_assoc b c d))))
    (joined (beside (IsPermutation-refl a) (beside (IsPermutation-append_comm b c) (IsPermutation-refl d)))
    (is_same (ap (λ (l : List _). a ++ l) (append_assoc c b d) ∙ sym (append_assoc a c (b ++ d)))))

-- ---- one note more

pub rows_of-append : (xs ys : List Note) → rows_of (xs ++ ys) ≡ rows_of xs ++ rows_of ys
rows_of-append [] ys = refl
rows_of-append (Batch rows ∷ xs) ys = ap (λ (l : Bag). rows ++ l) (rows_of-append xs ys) ∙ sym (append_assoc rows (rows_of xs) (rows_of ys))
rows_of-append (End ∷ xs) ys = rows_of-append xs ys

only_rows : (note : Note) → rows_of (note ∷ []) ≡ note_rows note
only_rows (Batch rows) = append-nil rows
only_rows End = refl

pub rows_of-last : (xs : List Note) (note : Note) → rows_of (xs ++ note ∷ []) ≡ rows_of xs ++ note_rows note
rows_of-last xs note = rows_of-append xs (note ∷ []) ∙ ap (λ (l : Bag). rows_of xs ++ l) (only_rows note)

pub has_end-last : (xs : List Note) (note : Note) → has_end (xs ++ note ∷ []) ≡ (has_end xs || is_end note)
has_end-last [] (Batch rows) = refl
has_end-last [] End = refl
has_end-last (Batch rows ∷ xs) note = has_end-last xs note
has_end-last (End ∷ xs) note = refl

pub are_notes-last : (fields : ℕ) (xs : List Note) (note : Note) → AreNotes fields xs → has_end xs ≡ false → IsNote fields note → AreNotes fields (xs ++ note ∷ [])
are_notes-last fields [] (Batch rows) h e n = (n.0, n.1, tt)
are_notes-last fields [] End h e n = refl
are_notes-last fields (Batch rows ∷ xs) note h e n = (h.0, h.1, are_notes-last fields xs note h.2 e n)
are_notes-last fields (End ∷ xs) note h e n = absurd (cc)

-- ---- the records of all senders

pub all_of-grown : (n k : ℕ) (f h : ℕ → Bag) (rows : Bag) → k < n → h k ≡ f k ++ rows → ((j : ℕ) → j ≢ k → h j ≡ f j) → IsPermutation (all_of n f ++ rows) (all_of n h)
all_of-grown zero k f h rows less here there = absurd (omega arith)
all_of-grown (suc n) k f h rows less here there = elim (cases_eq n k) as (λ _. IsPermutation ((f n ++ all_of n f) ++ rows) (h n ++ all_of n h)) [
  | inl e ↦
      let last : h n ≡ f n ++ rows = subst (λ (j : ℕ). h j ≡ f j ++ rows) (sym e) here in
      joined (is_same (append_assoc (f n) (all_of n f) rows))
      (joined (beside (IsPermutation-refl (f n)) (IsPermutation-append_comm (all_of n f) rows))
      (joined (is_same (sym (append_assoc (f n) rows (all_of n f))))
      (is_same (λ i. sym last i ++ same_each f h n (λ j below. sym (there j (λ q. omega arith))) i))))
  | inr other ↦
      joined (is_same (append_assoc (f n) (all_of n f) rows))
      (beside (is_same (sym (there n other))) (all_of-grown n k f h rows (omega arith) here there))
]

-- ---- pairs

pub crossed-nil : (f : List Value → List Value → Bag) (ls : Bag) → crossed f ls [] ≡ []
crossed-nil f [] = refl
crossed-nil f (l ∷ ls) = crossed-nil f ls

pub crossed-append : (f : List Value → List Value → Bag) (ls rs bs : Bag) → IsPermutation (crossed f ls (rs ++ bs)) (crossed f ls rs ++ crossed f ls bs)
crossed-append f [] rs bs = IsPermutation-refl []
crossed-append f (l ∷ ls) rs bs =
    joined (beside (is_same (flat_map-append (f l) rs bs)) (crossed-append f ls rs bs))
    (regrouped (flat_map (f l) rs) (flat_map (f l) bs) (crossed f ls rs) (crossed f ls bs))

pub crossed-left : (f : List Value → List Value → Bag) (ls ms rs : Bag) → IsPermutation ls ms → IsPermutation (crossed f ls rs) (crossed f ms rs)
crossed-left f ls ms rs p = to_permutation (flat_map_perm (λ l. flat_map (f l) rs) (from_permutation ls ms p))
