-- Groups that are sent in parts. The workers' senders emit records for their shares, and these are shipped by key. A
-- merger does with them what the function does with the records of the group.
use Rattle.std.proofs.Common.{◌≡◌, ◌<◌, ◌==◌, ◌||◌, ℕ, zero, suc, Bool, true, false, cond, inl, inr, List, [], ◌∷◌, ◌++◌, length, map, refl, sym, ap, subst, ◌∙◌, append_assoc, append-nil, arith}
use Rattle.std.specs.Prelude.{filter, IsPermutation}
use Rattle.std.specs.List.{AllByRecursion}
use Rattle.std.proofs.lemmas.Bool.{cases_Bool, both_ways}
use Rattle.std.proofs.lemmas.List.{map-append, length-append, length-map}
use Rattle.std.proofs.lemmas.List.Elements.{filter-append}
use Rattle.pact_record.specs.declared.values.Value.{Value}
use Rattle.pact_record.specs.Record.{key_of}
use Rattle.pact_record.proofs.Permutations.{Perm, nothing, keeps, swaps, chains, turned, before, after, both_parts, is_same, crossed_over, filter_perm, length-perm, from_permutation, to_permutation}
use Rattle.pact_bag.specs.Groups.{group_of_key, is_same_key}
use Rattle.pact_bag.proofs.KeyGroups.{occurs, same_keys, all-distinct}
use Rattle.pact_bag.proofs.KeyLists.{AreOnce, AreOnce-distinct_keys, Key, same_members}
use Rattle.pact_bag.proofs.KeysOfBags.{keys_alone}
use Rattle.plan_trees.specs.Sending.{all_of}
use Rattle.pact_operators.specs.Allowed.{Bag, Grouped, keys_in}
use Rattle.pact_operators.proofs.ChosenForKeys.{AreChosen-permuted, IsGivenFor, of_one_side, grouped-AreChosen, chosen-Grouped}
use Rattle.combine_rule.specs.Splits.{GroupCall, all_parts, IsSplitIn}

-- ---- lists of parts

all_parts-append : (xs ys : List Bag) → all_parts (xs ++ ys) ≡ all_parts xs ++ all_parts ys
all_parts-append [] ys = refl
all_parts-append (x ∷ xs) ys = ap (λ (l : Bag). x ++ l) (all_parts-append xs ys) ∙ sym (append_assoc x (all_parts xs) (all_parts ys))

abbrev first_or : {B : Type 0} → B → List B → B
first_or d [] = d
first_or d (b ∷ bs) = b

abbrev all_but_first : {B : Type 0} → List B → List B
all_but_first [] = []
all_but_first (b ∷ bs) = bs

-- a permutation of a mapped list is the mapping of a permuted list
unmapped : {A B : Type 0} (f : A → B) {ys zs : List B} → Perm ys zs → (xs : List A) → ys ≡ map f xs → (ws : List A) × Perm xs ws × (zs ≡ map f ws)
unmapped f nothing [] e = ([], nothing, refl)
unmapped f nothing (x ∷ xs) e = cc
unmapped f (keeps p) [] e = cc
unmapped f (keeps {x = y} p) (x ∷ xs) e =
    let q = unmapped f p xs (ap all_but_first e) in
    (x ∷ q.0, keeps q.1, λ i. ap (first_or y) e i ∷ q.2 i)
unmapped f swaps [] e = cc
unmapped f swaps (a ∷ []) e = cc
unmapped f (swaps {x = x} {y = y} {xs = l}) (a ∷ b ∷ xs) e =
    let tail = ap all_but_first e in
    (b ∷ a ∷ xs, swaps, λ i. ap (first_or y) tail i ∷ ap (first_or x) e i ∷ ap all_but_first tail i)
unmapped f (chains p q) xs e =
    let one = unmapped f p xs e in
    let two = unmapped f q one.0 one.2 in
    (two.0, chains one.1 two.1, two.2)

parts_swapped : (a b c : Bag) → Perm (a ++ (b ++ c)) (b ++ (a ++ c))
parts_swapped a b c = chains (is_same (sym (append_assoc a b c))) (chains (after c (crossed_over a b)) (is_same (append_assoc b a c)))

all_parts-perm : {xs ys : List Bag} → Perm xs ys → Perm (all_parts xs) (all_parts ys)
all_parts-perm nothing = nothing
all_parts-perm (keeps {x = x} p) = before x (all_parts-perm p)
all_parts-perm (swaps {x = x} {y = y} {xs = xs}) = parts_swapped x y (all_parts xs)
all_parts-perm (chains p q) = chains (all_parts-perm p) (all_parts-perm q)

-- ---- groups

group-append : (keys : List ℕ) (k : Key) (xs ys : Bag) → group_of_key keys (xs ++ ys) k ≡ group_of_key keys xs k ++ group_of_key keys ys k
group-append keys k xs ys = filter-append (λ r. is_same_key (key_of keys r) k) xs ys

group-perm : (keys : List ℕ) (k : Key) {xs ys : Bag} → Perm xs ys → Perm (group_of_key keys xs k) (group_of_key keys ys k)
group-perm keys k p = filter_perm (λ r. is_same_key (key_of keys r) k) p

-- ---- records, and what senders emitted for them

module _ (keys : List ℕ) (f sender merger : GroupCall) (split : IsSplitIn keys f sender merger) where
  -- key values that some record has
  abbrev pub IsKey : Key → Type 0
  IsKey k = (row : List Value) × (k ≡ key_of keys row)

  -- For a key, the sent records are what the sender emits for parts of the group of the taken records. No part is
  -- empty.
  pub record InParts (k : Key) (rows sent : Bag) : Type 0 where
    pub parts : List Bag
    pub gives : Perm (group_of_key keys sent k) (map (split.partial k) parts)
    pub takes : Perm (all_parts parts) (group_of_key keys rows k)
    pub some : AllByRecursion (λ part. 0 < length part) parts

  abbrev pub AllInParts : Bag → Bag → Type 0
  AllInParts rows sent = (k : Key) → InParts k rows sent

  pub none_in_parts : AllInParts [] []
  none_in_parts k = record { parts = []; gives = nothing; takes = nothing; some = tt }

  all-append : (P : Bag → Type 0) (xs ys : List Bag) → AllByRecursion P xs → AllByRecursion P ys → AllByRecursion P (xs ++ ys)
  all-append P [] ys h g = g
  all-append P (x ∷ xs) ys h g = (h.0, all-append P xs ys h.1 g)

  pub both_in_parts : (a b c d : Bag) → AllInParts a b → AllInParts c d → AllInParts (a ++ c) (b ++ d)
  both_in_parts a b c d h g k =
      let p = h k in
      let q = g k in
      record {
        parts = p.parts ++ q.parts;
        gives = chains (is_same (group-append keys k b d)) (chains (both_parts p.gives q.gives) (is_same (sym (map-append (split.partial k) p.parts q.parts))));
        takes = chains (is_same (all_parts-append p.parts q.parts)) (chains (both_parts p.takes q.takes) (is_same (sym (group-append keys k a c))));
        some = all-append (λ part. 0 < length part) p.parts q.parts p.some q.some;
      }

  pub permuted_in_parts : {a b c d : Bag} → Perm a c → Perm b d → AllInParts a b → AllInParts c d
  permuted_in_parts x y h k =
      let p = h k in
      record { parts = p.parts; gives = chains (turned (group-perm keys k y)) p.gives; takes = chains p.takes (group-perm keys k x); some = p.some }

  -- the same property for all workers together
  pub all_in_parts : (W : ℕ) (rows sent : ℕ → Bag) → ((w : ℕ) → w < W → AllInParts (rows w) (sent w)) → AllInParts (all_of W rows) (all_of W sent)
  all_in_parts zero rows sent h = none_in_parts
  all_in_parts (suc n) rows sent h = both_in_parts (rows n) (sent n) (all_of n rows) (all_of n sent) (h n (omega arith)) (all_in_parts n rows sent (λ w b. h w (omega (arith, b))))

  -- ---- the records that go to one worker, by their keys

  module _ (place : Key → ℕ) (w : ℕ) where
    abbrev pub goes_there : List Value → Bool
    goes_there row = place (key_of keys row) == w

    there : (b c d : Bool) (row : List Value) (xs : Bag) → (d ≡ true → b ≡ c) → cond b (cond d (row ∷ xs) xs) xs ≡ cond d (cond c (row ∷ xs) xs) xs
    there true true true row xs h = refl
    there true true false row xs h = refl
    there true false true row xs h = absurd (both_ways false refl (sym (h refl)))
    there true false false row xs h = refl
    there false true true row xs h = absurd (both_ways false refl (sym (sym (h refl))))
    there false true false row xs h = refl
    there false false true row xs h = refl
    there false false false row xs h = refl

    group_there : (k : Key) (rows : Bag) → (place k == w) ≡ true → group_of_key keys (filter goes_there rows) k ≡ group_of_key keys rows k
    group_there k [] e = refl
    group_there k (row ∷ rows) e = at (is_same_key (key_of keys row) k) (goes_there row) refl refl (group_there k rows e) where
      at : (s g : Bool) → is_same_key (key_of keys row) k ≡ s → goes_there row ≡ g → group_of_key keys (filter goes_there rows) k ≡ group_of_key keys rows k
          → group_of_key keys (cond g (row ∷ filter goes_there rows) (filter goes_there rows)) k ≡ cond s (row ∷ group_of_key keys rows k) (group_of_key keys rows k)
      at true true es eg rest = ap (λ (b : Bool). cond b (row ∷ group_of_key keys (filter goes_there rows) k) (group_of_key keys (filter goes_there rows) k)) es ∙ ap (λ (l : Bag). row ∷ l) rest
      at true false es eg rest = absurd (both_ways (goes_there row) eg (ap (λ (j : Key). place j == w) (same_keys (key_of keys row) k es) ∙ e))
      at false true es eg rest = ap (λ (b : Bool). cond b (row ∷ group_of_key keys (filter goes_there rows) k) (group_of_key keys (filter goes_there rows) k)) es ∙ rest
      at false false es eg rest = rest

    group_away : (k : Key) (rows : Bag) → (place k == w) ≡ false → group_of_key keys (filter goes_there rows) k ≡ []
    group_away k [] e = refl
    group_away k (row ∷ rows) e = at (is_same_key (key_of keys row) k) (goes_there row) refl refl (group_away k rows e) where
      at : (s g : Bool) → is_same_key (key_of keys row) k ≡ s → goes_there row ≡ g → group_of_key keys (filter goes_there rows) k ≡ []
          → group_of_key keys (cond g (row ∷ filter goes_there rows) (filter goes_there rows)) k ≡ []
      at true true es eg rest = absurd (both_ways (place k == w) e (ap (λ (j : Key). place j == w) (sym (same_keys (key_of keys row) k es)) ∙ eg))
      at false true es eg rest = ap (λ (b : Bool). cond b (row ∷ group_of_key keys (filter goes_there rows) k) (group_of_key keys (filter goes_there rows) k)) es ∙ rest
      at s false es eg rest = rest

    pub sent_in_parts : (rows sent : Bag) → AllInParts rows sent → AllInParts (filter goes_there rows) (filter goes_there sent)
    sent_in_parts rows sent h k = elim (cases_Bool (place k == w)) as (λ _. InParts k (filter goes_there rows) (filter goes_there sent)) [
      | inl e ↦ let p = h k in record {
        parts = p.parts;
        gives = chains (is_same (group_there k sent e)) p.gives;
        takes = chains p.takes (is_same (sym (group_there k rows e)));
        some = p.some;
      }
      | inr e ↦ record { parts = []; gives = is_same (group_away k sent e); takes = is_same (sym (group_away k rows e)); some = tt }
    ]

  -- ---- what a sender emitted for its share

  -- the sender's output for some keys, each once, over the records of a share
  pub record GaveFor (rows : Bag) (ks : List Key) (out : Bag) (k : Key) : Type 0 where
    pub here : occurs k ks ≡ true → (part : Bag) × Perm (group_of_key keys rows k) part × (group_of_key keys out k ≡ split.partial k part ∷ [])
    pub away : occurs k ks ≡ false → group_of_key keys out k ≡ []

  one_row : (keys2 : List ℕ) (row : List Value) (k : Key) (rest : Bag) (b : Bool) → is_same_key (key_of keys2 row) k ≡ b
      → group_of_key keys2 (row ∷ rest) k ≡ cond b (row ∷ group_of_key keys2 rest k) (group_of_key keys2 rest k)
  one_row keys2 row k rest b e = ap (λ (c : Bool). cond c (row ∷ group_of_key keys2 rest k) (group_of_key keys2 rest k)) e

  gave_for : (rows : Bag) (ks : List Key) (out : Bag) → AreOnce ks → AllByRecursion IsKey ks → Grouped sender keys rows ks out → (k : Key) → GaveFor rows ks out k
  gave_for rows [] out o is h k = record { here = λ e. absurd (both_ways false refl e); away = λ e. ap (λ (l : Bag). group_of_key keys l k) h }
  gave_for rows (j ∷ ks) out o is h k = by (is_same_key j k) refl (gave_for rows ks h.1 o.1 is.1 h.4 k) where
    part : Bag
    part = h.0

    row : List Value
    row = split.partial j part

    -- its output for this key is one record, which has this key
    is_out : out ≡ row ∷ h.1
    is_out = h.3 ∙ ap (λ (l : Bag). l ++ h.1) (subst (λ (x : Key). sender x part ≡ split.partial x part ∷ []) (sym is.0.1) (split.sends is.0.0 part))

    has_key : key_of keys row ≡ j
    has_key = subst (λ (x : Key). key_of keys (split.partial x part) ≡ x) (sym is.0.1) (split.keyed is.0.0 part)

    by : (b : Bool) → is_same_key j k ≡ b → GaveFor rows ks h.1 k → GaveFor rows (j ∷ ks) out k
    by true e rest =
        let same_key : j ≡ k = same_keys j k e in
        let none : group_of_key keys h.1 k ≡ [] = rest.away (subst (λ (x : Key). occurs x ks ≡ false) same_key o.0) in
        record {
          here = λ x. (
            part,
            subst (λ (y : Key). Perm (group_of_key keys rows y) part) same_key (from_permutation (group_of_key keys rows j) part h.2),
            ap (λ (l : Bag). group_of_key keys l k) is_out ∙ one_row keys row k h.1 true (ap (λ (y : Key). is_same_key y k) has_key ∙ e)
                ∙ (λ i. split.partial (same_key i) part ∷ none i),
          );
          away = λ x. absurd (both_ways (is_same_key j k || occurs k ks) x (ap (λ (b : Bool). b || occurs k ks) e));
        }
    by false e rest =
        let skip : group_of_key keys out k ≡ group_of_key keys h.1 k = ap (λ (l : Bag). group_of_key keys l k) is_out ∙ one_row keys row k h.1 false (ap (λ (y : Key). is_same_key y k) has_key ∙ e) in
        record {
          here = λ x. let r = rest.here (ap (λ (b : Bool). b || occurs k ks) (sym e) ∙ x) in (r.0, r.1, skip ∙ r.2);
          away = λ x. skip ∙ rest.away (ap (λ (b : Bool). b || occurs k ks) (sym e) ∙ x);
        }

  keys_are : (rows : Bag) → AllByRecursion IsKey (map (key_of keys) rows)
  keys_are [] = tt
  keys_are (row ∷ rows) = ((row, refl), keys_are rows)

  pub keys_in_are : (rows : Bag) → AllByRecursion IsKey (keys_in keys rows)
  keys_in_are rows = all-distinct IsKey (map (key_of keys) rows) (keys_are rows)

  long_or_none : (l : Bag) → (0 < length l → ⊥) → l ≡ []
  long_or_none [] h = refl
  long_or_none (x ∷ l) h = absurd (h (omega arith))

  pub share_in_parts : (rows out : Bag) → Grouped sender keys rows (keys_in keys rows) out → AllInParts rows out
  share_in_parts rows out h k =
      let ks = keys_in keys rows in
      let g = gave_for rows ks out (AreOnce-distinct_keys (map (key_of keys) rows)) (keys_in_are rows) h k in
      let of_keys = keys_alone keys rows in
      elim (cases_Bool (occurs k ks)) as (λ _. InParts k rows out) [
        | inl e ↦
            let r = g.here e in
            let some = (of_keys.occur k).0 e in
            record {
              parts = r.0 ∷ [];
              gives = is_same r.2;
              takes = chains (is_same (append-nil r.0)) (turned r.1);
              some = (omega (arith, some, length-perm r.1), tt);
            }
        | inr e ↦
            let none : group_of_key keys rows k ≡ [] = long_or_none (group_of_key keys rows k) (λ some. both_ways (occurs k ks) e ((of_keys.occur k).1 (omega (arith, some)))) in
            record { parts = []; gives = is_same (g.away e); takes = is_same (sym none); some = tt }
      ]

  -- ---- what the merger emits

  pub merged_group : (k : Key) (rows sent group : Bag) → IsKey k → InParts k rows sent → IsPermutation (group_of_key keys sent k) group
      → (own : Bag) × IsPermutation (group_of_key keys rows k) own × (merger k group ≡ f k own)
  merged_group k rows sent group is p perm =
      let q = unmapped (split.partial k) (chains (turned p.gives) (from_permutation (group_of_key keys sent k) group perm)) p.parts refl in (
        all_parts q.0,
        to_permutation (chains (turned p.takes) (all_parts-perm q.1)),
        ap (merger k) q.2 ∙ subst (λ (x : Key). merger x (map (split.partial x) q.0) ≡ f x (all_parts q.0)) (sym is.1) (split.merges is.0 q.0),
      )

  merged_keys : (rows sent : Bag) → AllInParts rows sent → (ks : List Key) → AllByRecursion IsKey ks → (out : Bag) → Grouped merger keys sent ks out
      → Grouped f keys rows ks out
  merged_keys rows sent p [] is out h = h
  merged_keys rows sent p (k ∷ ks) is out h =
      let m = merged_group k rows sent h.0 is.0 (p k) h.2 in
      (m.0, h.1, m.1, h.3 ∙ ap (λ (l : Bag). l ++ h.1) m.2, merged_keys rows sent p ks is.1 h.1 h.4)

  some_parts : (parts : List Bag) → AllByRecursion (λ part. 0 < length part) parts → 0 < length parts → 0 < length (all_parts parts)
  some_parts [] h lt = absurd (omega (arith, lt))
  some_parts (x ∷ xs) h lt = omega (arith, h.0, length-append x (all_parts xs))

  some_listed : (parts : List Bag) → 0 < length (all_parts parts) → 0 < length parts
  some_listed [] lt = absurd (omega (arith, lt))
  some_listed (x ∷ xs) lt = omega arith

  -- a key has taken records exactly if it has sent records
  same_occurs : (rows sent : Bag) → AllInParts rows sent → (k : Key)
      → (occurs k (keys_in keys sent) ≡ true → occurs k (keys_in keys rows) ≡ true) × (occurs k (keys_in keys rows) ≡ true → occurs k (keys_in keys sent) ≡ true)
  same_occurs rows sent h k =
      let p = h k in
      let r = (keys_alone keys rows).occur k in
      let s = (keys_alone keys sent).occur k in
      let gives = length-perm p.gives in
      let takes = length-perm p.takes in
      let mapped = length-map p.parts (split.partial k) in (
        (λ e. let lt = s.0 e in let some = some_parts p.parts p.some (omega (arith, lt, gives, mapped)) in r.1 (omega (arith, some, takes))),
        (λ e. let lt = r.0 e in let some = some_listed p.parts (omega (arith, lt, takes)) in s.1 (omega (arith, some, gives, mapped))),
      )

  pub merged : (rows sent : Bag) → AllInParts rows sent → (out : Bag) → Grouped merger keys sent (keys_in keys sent) out
      → (now : Bag) × Grouped f keys rows (keys_in keys rows) now × Perm out now
  merged rows sent p out h =
      let ks = keys_in keys sent in
      let js = keys_in keys rows in
      let own = merged_keys rows sent p ks (keys_in_are sent) out h in
      let perm = same_members ks js (AreOnce-distinct_keys (map (key_of keys) sent)) (AreOnce-distinct_keys (map (key_of keys) rows)) (λ k. (same_occurs rows sent p k).1) (λ k. (same_occurs rows sent p k).0) in
      let q = AreChosen-permuted (IsGivenFor (of_one_side f) keys [] rows []) perm out (grouped-AreChosen f keys rows ks out own) in
      (q.0, chosen-Grouped f keys rows js q.0 q.1, q.2)

  -- each key has exactly one record, which has this key
  pub one_for_each : (rows : Bag) (ks : List Key) → AllByRecursion IsKey ks → (out : Bag) → Grouped sender keys rows ks out → map (key_of keys) out ≡ ks
  one_for_each rows [] is out h = ap (map (key_of keys)) h
  one_for_each rows (k ∷ ks) is out h =
      let one : sender k h.0 ≡ split.partial k h.0 ∷ [] = subst (λ (x : Key). sender x h.0 ≡ split.partial x h.0 ∷ []) (sym is.0.1) (split.sends is.0.0 h.0) in
      let has_key : key_of keys (split.partial k h.0) ≡ k = subst (λ (x : Key). key_of keys (split.partial x h.0) ≡ x) (sym is.0.1) (split.keyed is.0.0 h.0) in
      ap (map (key_of keys)) (h.3 ∙ ap (λ (l : Bag). l ++ h.1) one) ∙ (λ i. has_key i ∷ one_for_each rows ks is.1 h.1 h.4 i)
