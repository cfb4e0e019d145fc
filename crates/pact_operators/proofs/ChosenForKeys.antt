-- An allowed output for each key, one after another: the output of a Reduce or a CoGroup is chosen in this way.
use Rattle.std.proofs.Common.{◌≡◌, ◌∙◌, ℕ, true, List, [], ◌∷◌, ◌++◌, refl, sym, ap, append_assoc}
use Rattle.std.proofs.lemmas.Bool.{or_left, or_right}
use Rattle.pact_bag.specs.Groups.{group_of_key, is_same_key}
use Rattle.pact_bag.proofs.KeyGroups.{key_itself, occurs}
use Rattle.pact_bag.proofs.KeyLists.{Key}
use Rattle.pact_record.specs.declared.values.Value.{Value}
use Rattle.pact_record.proofs.Permutations.{Perm, after, before, chains, crossed_over, from_permutation, is_same, keeps, nothing, same, swaps, to_permutation}
use Rattle.pact_operators.specs.Allowed.{Bag, CoGrouped, Grouped}

abbrev pub AreChosen : (Key → Bag → Type 0) → List Key → Bag → Type 0
AreChosen P [] out = out ≡ []
AreChosen P (k ∷ ks) out = (first : Bag) × (rest : Bag) × P k first × (out ≡ first ++ rest) × AreChosen P ks rest

pub AreChosen-weaker : (P Q : Key → Bag → Type 0) → ((k : Key) (out : Bag) → P k out → Q k out) → (ks : List Key) (out : Bag) → AreChosen P ks out → AreChosen Q ks out
AreChosen-weaker P Q f [] out h = h
AreChosen-weaker P Q f (k ∷ ks) out h = (h.0, h.1, f k h.0 h.2, h.3, AreChosen-weaker P Q f ks h.1 h.4)

-- the first key of a list, and those after it
pub first_occurs : (k : Key) (ks : List Key) → occurs k (k ∷ ks) ≡ true
first_occurs k ks = or_left (is_same_key k k) (occurs k ks) (key_itself k)

pub later_occurs : (j k : Key) (ks : List Key) → occurs k ks ≡ true → occurs k (j ∷ ks) ≡ true
later_occurs j k ks o = or_right (is_same_key j k) (occurs k ks) o

-- ---- in another order of the keys

parts_swapped : (a b c : Bag) → Perm (a ++ (b ++ c)) (b ++ (a ++ c))
parts_swapped a b c = chains (is_same (sym (append_assoc a b c))) (chains (after c (crossed_over a b)) (is_same (append_assoc b a c)))

pub AreChosen-permuted : (P : Key → Bag → Type 0) {ks js : List Key} → Perm ks js → (out : Bag) → AreChosen P ks out → (now : Bag) × AreChosen P js now × Perm out now
AreChosen-permuted P nothing out h = (out, h, same out)
AreChosen-permuted P (keeps p) out h =
    let rest = AreChosen-permuted P p h.1 h.4 in
    (h.0 ++ rest.0, (h.0, rest.0, h.2, refl, rest.1), chains (is_same h.3) (before h.0 rest.2))
AreChosen-permuted P swaps out h =
    let t = h.4 in (
      t.0 ++ (h.0 ++ t.1),
      (t.0, h.0 ++ t.1, t.2, refl, (h.0, t.1, h.2, refl, t.4)),
      chains (is_same (h.3 ∙ ap (λ (l : Bag). h.0 ++ l) t.3)) (parts_swapped h.0 t.0 t.1),
    )
AreChosen-permuted P (chains p q) out h =
    let one = AreChosen-permuted P p out h in
    let two = AreChosen-permuted P q one.0 one.1 in
    (two.0, two.1, chains one.2 two.2)

-- ---- what is emitted for the groups of keys

-- what may be emitted for a key, over the records of one side and of the other
abbrev pub IsGivenFor : (List Value → Bag → Bag → Bag) → List ℕ → List ℕ → Bag → Bag → Key → Bag → Type 0
IsGivenFor g keys others ls rs k out = (xs : Bag) × (zs : Bag) × Perm (group_of_key keys ls k) xs × Perm (group_of_key others rs k) zs × (out ≡ g k xs zs)

-- a function of one group as one of two
abbrev pub of_one_side : (List Value → Bag → Bag) → List Value → Bag → Bag → Bag
of_one_side f k xs zs = f k xs

pub grouped-AreChosen : (f : List Value → Bag → Bag) (keys : List ℕ) (rows : Bag) (ks : List Key) (out : Bag) → Grouped f keys rows ks out → AreChosen (IsGivenFor (of_one_side f) keys [] rows []) ks out
grouped-AreChosen f keys rows [] out h = h
grouped-AreChosen f keys rows (k ∷ ks) out h =
    (f k h.0, h.1, (h.0, [], from_permutation (group_of_key keys rows k) h.0 h.2, nothing, refl), h.3, grouped-AreChosen f keys rows ks h.1 h.4)

pub chosen-Grouped : (f : List Value → Bag → Bag) (keys : List ℕ) (rows : Bag) (ks : List Key) (out : Bag) → AreChosen (IsGivenFor (of_one_side f) keys [] rows []) ks out → Grouped f keys rows ks out
chosen-Grouped f keys rows [] out h = h
chosen-Grouped f keys rows (k ∷ ks) out h =
    let c = h.2 in
    (c.0, h.1, to_permutation c.2, h.3 ∙ ap (λ (l : Bag). l ++ h.1) c.4, chosen-Grouped f keys rows ks h.1 h.4)

pub cogrouped-AreChosen : (f : List Value → Bag → Bag → Bag) (keys others : List ℕ) (ls rs : Bag) (ks : List Key) (out : Bag) → CoGrouped f keys others ls rs ks out → AreChosen (IsGivenFor f keys others ls rs) ks out
cogrouped-AreChosen f keys others ls rs [] out h = h
cogrouped-AreChosen f keys others ls rs (k ∷ ks) out h = (
  f k h.0 h.1,
  h.2,
  (h.0, h.1, from_permutation (group_of_key keys ls k) h.0 h.3, from_permutation (group_of_key others rs k) h.1 h.4, refl),
  h.5,
  cogrouped-AreChosen f keys others ls rs ks h.2 h.6,
)

pub chosen-CoGrouped : (f : List Value → Bag → Bag → Bag) (keys others : List ℕ) (ls rs : Bag) (ks : List Key) (out : Bag) → AreChosen (IsGivenFor f keys others ls rs) ks out → CoGrouped f keys others ls rs ks out
chosen-CoGrouped f keys others ls rs [] out h = h
chosen-CoGrouped f keys others ls rs (k ∷ ks) out h =
    let c = h.2 in
    (c.0, c.1, h.1, to_permutation c.2, to_permutation c.3, h.3 ∙ ap (λ (l : Bag). l ++ h.1) c.4, chosen-CoGrouped f keys others ls rs ks h.1 h.4)
