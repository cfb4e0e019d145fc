-- Rows other than the first of their keys.
use Rattle.std.proofs.Common.{◌≡◌, ◌⊎◌, inl, inr, ◌<◌, ◌≤◌, ◌+◌, ℕ, zero, suc, Bool, true, true≢false, List, [], ◌∷◌, ◌++◌, length, get_or, refl, ap, sym, ◌∙◌, subst, arith, append_assoc, append-nil, Some}
use Rattle.std.specs.Prelude.{slice_set}
use Rattle.std.specs.List.{AllByRecursion}
use Rattle.std.specs.List.Sorted.{IsPermutation}
use Rattle.std.proofs.lemmas.Bool.{cases_eq, cases_lt}
use Rattle.std.proofs.lemmas.List.{get_or_append_left, get_or-set_other, get_or-set_same, length-append, length-set, set-set}
use Rattle.std.proofs.lemmas.List.Sorted.{IsPermutation-refl, IsPermutation-trans}
use Rattle.pact_record.specs.declared.values.Value.{Value}
use Rattle.pact_record.specs.Record.{key_of}
use Rattle.pact_record.specs.Widths.{AreBelow, AreWide}
use Rattle.pact_record.proofs.Lists.{AllByRecursion-append, AllByRecursion-last, AllByRecursion-left, AllByRecursion-right, AllByRecursion-weaker}
use Rattle.pact_record.proofs.Permutations.{Perm, after, before, chains, crossed_over, each_perm, flat_map-append, from_permutation, is_same, middle, to_permutation, turned}
use Rattle.chain_arena.specs.Arenas.{ArenaData, IsTaken}
use Rattle.local_strategy.specs.Grouped.{AreAllBelow, GroupsData, IsFound, order_of, rows_of}
use Rattle.group_table.specs.declared.buckets.Buckets.{Buckets}
use Rattle.group_table.specs.Tables.{IsIndex}
use Rattle.group_table.specs.Stored.{AreBehind, AreMoved, IsAdded, IsNewGroup, IsStored}

-- ---- lists of rows

past-end : (lists : List (List (List Value))) (n : ℕ) → length lists ≤ n → get_or (lists ++ [] ∷ []) n [] ≡ []
past-end [] zero le = refl
past-end [] (suc n) le = refl
past-end (l ∷ lists) zero le = absurd (omega (arith, le))
past-end (l ∷ lists) (suc n) le = past-end lists n (omega (arith, le))

rows-new_list : (lists : List (List (List Value))) → rows_of (lists ++ [] ∷ []) ≡ rows_of lists
rows-new_list lists = flat_map-append (λ l. l) lists ([] ∷ []) ∙ append-nil (rows_of lists)

-- a row is appended to a list
rows-pushed : (lists : List (List (List Value))) (n : ℕ) (row : List Value) → n < length lists → Perm (rows_of lists ++ row ∷ []) (rows_of (slice_set lists n (get_or lists n [] ++ row ∷ [])))
rows-pushed [] n row lt = absurd (omega (arith, lt))
rows-pushed (l ∷ lists) zero row lt =
    chains (is_same (append_assoc l (rows_of lists) (row ∷ []))) (chains (before l (crossed_over (rows_of lists) (row ∷ []))) (is_same (sym (append_assoc l (row ∷ []) (rows_of lists)))))
rows-pushed (l ∷ lists) (suc n) row lt = chains (is_same (append_assoc l (rows_of lists) (row ∷ []))) (before l (rows-pushed lists n row (omega (arith, lt))))

-- the first row of a list is removed
rows-taken : (lists : List (List (List Value))) (n : ℕ) (row : List Value) (rest : List (List Value)) → n < length lists → get_or lists n [] ≡ row ∷ rest → Perm (rows_of lists) (row ∷ rows_of (slice_set lists n rest))
rows-taken [] n row rest lt e = absurd (omega (arith, lt))
rows-taken (l ∷ lists) zero row rest lt e = is_same (ap (λ (l : List (List Value)). l ++ rows_of lists) e)
rows-taken (l ∷ lists) (suc n) row rest lt e =
    chains (before l (rows-taken lists n row rest (omega (arith, lt)) e)) (turned (middle row l (rows_of (slice_set lists n rest))))

-- ---- one more row

-- a row of the same width
abbrev IsAsWide : List Value → List Value → Type 0
IsAsWide row r = length r ≡ length row

abbrev HasKey : List ℕ → List (List Value) → ℕ → List Value → Type 0
HasKey keys order n row = key_of keys row ≡ get_or order n []

pub none_behind : (keys : List ℕ) → AreBehind keys [] []
none_behind keys = record { count = refl; keyed = λ n. tt; width = 0; wide = tt; below = tt }

-- a new group is added, with an empty list
behind_new : (keys : List ℕ) (row : List Value) (groups more lists : List (List (List Value))) → AreBehind keys groups lists → AreWide (length row) (rows_of groups ++ rows_of lists)
    → order_of keys more ≡ order_of keys groups ++ key_of keys row ∷ [] → IsPermutation (rows_of groups ++ row ∷ []) (rows_of more) → AreBehind keys more (lists ++ [] ∷ [])
behind_new keys row groups more lists h wide order rows = record {
  count = length-append lists ([] ∷ []) ∙ ap (λ n. n + 1) h.count ∙ sym (length-append (order_of keys groups) (key_of keys row ∷ [])) ∙ ap length (sym order);
  keyed = λ n. subst (λ (o : List (List Value)). AllByRecursion (HasKey keys o n) (get_or (lists ++ [] ∷ []) n [])) (sym order) (keyed n (cases_lt n (length lists)));
  width = length row;
  wide = AllByRecursion-append (IsAsWide row) (rows_of more) (rows_of (lists ++ [] ∷ [])) (each_perm (IsAsWide row) (from_permutation (rows_of groups ++ row ∷ []) (rows_of more) rows) (AllByRecursion-last (IsAsWide row) (rows_of groups) row (AllByRecursion-left (IsAsWide row) (rows_of groups) (rows_of lists) wide) refl))
      (subst (AllByRecursion (IsAsWide row)) (sym (rows-new_list lists)) (AllByRecursion-right (IsAsWide row) (rows_of groups) (rows_of lists) wide));
  below = subst (AreAllBelow keys) (sym (rows-new_list lists)) h.below;
} where
  keyed : (n : ℕ) → (n < length lists) ⊎ (length lists ≤ n) → AllByRecursion (HasKey keys (order_of keys groups ++ key_of keys row ∷ []) n) (get_or (lists ++ [] ∷ []) n [])
  keyed n (inl less) =
      subst (AllByRecursion (HasKey keys (order_of keys groups ++ key_of keys row ∷ []) n)) (sym (get_or_append_left lists ([] ∷ []) [] n less))
      (subst (λ (k : List Value). AllByRecursion (λ r. key_of keys r ≡ k) (get_or lists n [])) (sym (get_or_append_left (order_of keys groups) (key_of keys row ∷ []) [] n (subst (λ l. n < l) h.count less))) (h.keyed n))
  keyed n (inr le) = subst (AllByRecursion (HasKey keys (order_of keys groups ++ key_of keys row ∷ []) n)) (sym (past-end lists n le)) tt

-- the row is appended to its key's list
behind_more : (keys : List ℕ) (row : List Value) (groups lists : List (List (List Value))) (n : ℕ) → AreBehind keys groups lists → IsFound (order_of keys groups) (key_of keys row) (Some n)
    → AreWide (length row) (rows_of groups ++ rows_of lists) → AreBelow (length row) keys → AreBehind keys groups (slice_set lists n (get_or lists n [] ++ row ∷ []))
behind_more keys row groups lists n h found wide below = record {
  count = length-set lists n (get_or lists n [] ++ row ∷ []) ∙ h.count;
  keyed = λ m. keyed m (cases_eq m n);
  width = length row;
  wide = AllByRecursion-append (IsAsWide row) (rows_of groups) (rows_of (slice_set lists n (get_or lists n [] ++ row ∷ []))) (AllByRecursion-left (IsAsWide row) (rows_of groups) (rows_of lists) wide)
      (each_perm (IsAsWide row) (rows-pushed lists n row within) (AllByRecursion-last (IsAsWide row) (rows_of lists) row (AllByRecursion-right (IsAsWide row) (rows_of groups) (rows_of lists) wide) refl));
  below = each_perm (λ r. AreBelow (length r) keys) (rows-pushed lists n row within) (AllByRecursion-last (λ r. AreBelow (length r) keys) (rows_of lists) row h.below below);
} where
  within : n < length lists
  within = subst (λ l. n < l) (sym h.count) found.0

  keyed : (m : ℕ) → (m ≡ n) ⊎ (m ≡ n → ⊥) → AllByRecursion (HasKey keys (order_of keys groups) m) (get_or (slice_set lists n (get_or lists n [] ++ row ∷ [])) m [])
  keyed m (inl e) = subst (λ m. AllByRecursion (HasKey keys (order_of keys groups) m) (get_or (slice_set lists n (get_or lists n [] ++ row ∷ [])) m [])) (sym e)
      (subst (AllByRecursion (HasKey keys (order_of keys groups) n)) (sym (get_or-set_same lists n (get_or lists n [] ++ row ∷ []) [] within)) (AllByRecursion-last (HasKey keys (order_of keys groups) n) (get_or lists n []) row (h.keyed n) (sym found.1)))
  keyed m (inr other) = subst (AllByRecursion (HasKey keys (order_of keys groups) m)) (sym (get_or-set_other lists n m (get_or lists n [] ++ row ∷ []) [] other)) (h.keyed m)

pub added_new : (row : List Value) (old new : GroupsData) (lists more : List (List (List Value))) (buckets : Buckets) → AreBehind old.keys old.groups lists → AreWide (length row) (rows_of old.groups ++ rows_of lists)
    → IsNewGroup row old lists buckets new more → IsAdded row old lists buckets new more
added_new row old new lists more buckets h wide g = record {
  keys = g.keys;
  index = g.index;
  behind = subst (AreBehind new.keys new.groups) (sym g.listed) (subst (λ (ks : List ℕ). AreBehind ks new.groups (lists ++ [] ∷ [])) (sym g.keys)
      (behind_new old.keys row old.groups new.groups lists h wide (ap (λ (ks : List ℕ). order_of ks new.groups) (sym g.keys) ∙ g.order) g.rows));
  rows = to_permutation (chains (is_same (append_assoc (rows_of old.groups) (rows_of lists) (row ∷ []))) (chains (before (rows_of old.groups) (crossed_over (rows_of lists) (row ∷ [])))
      (chains (is_same (sym (append_assoc (rows_of old.groups) (row ∷ []) (rows_of lists)))) (chains (after (rows_of lists) (from_permutation (rows_of old.groups ++ row ∷ []) (rows_of new.groups) g.rows))
      (is_same (ap (λ (l : List (List Value)). rows_of new.groups ++ l) (sym (rows-new_list lists) ∙ ap rows_of (sym g.listed))))))));
}

pub added_behind : (row : List Value) (old : GroupsData) (lists more : List (List (List Value))) (buckets : Buckets) (n : ℕ) → IsIndex buckets (order_of old.keys old.groups) → AreBehind old.keys old.groups lists
    → IsFound (order_of old.keys old.groups) (key_of old.keys row) (Some n) → AreWide (length row) (rows_of old.groups ++ rows_of lists) → AreBelow (length row) old.keys
    → more ≡ slice_set lists n (get_or lists n [] ++ row ∷ []) → IsAdded row old lists buckets old more
added_behind row old lists more buckets n index h found wide below e = record {
  keys = refl;
  index = index;
  behind = subst (AreBehind old.keys old.groups) (sym e) (behind_more old.keys row old.groups lists n h found wide below);
  rows = to_permutation (chains (is_same (append_assoc (rows_of old.groups) (rows_of lists) (row ∷ [])))
      (before (rows_of old.groups) (chains (rows-pushed lists n row (subst (λ l. n < l) (sym h.count) found.0)) (is_same (ap rows_of (sym e))))));
}

-- ---- from lists to groups

-- A row is removed from the list of its key.
pub record IsOff (keys : List ℕ) (groups lists : List (List (List Value))) (n : ℕ) (row : List Value) (left : List (List (List Value))) : Type 0 where
  pub found : IsFound (order_of keys groups) (key_of keys row) (Some n)
  pub wide : AreWide (length row) (rows_of groups)
  pub below : AreBelow (length row) keys
  pub count : length left ≡ length lists
  pub keyed : (m : ℕ) → AllByRecursion (λ row. key_of keys row ≡ get_or (order_of keys groups) m []) (get_or left m [])
  pub rows : Perm (rows_of lists) (row ∷ rows_of left)

pub is_off : (keys : List ℕ) (groups : List (List (List Value))) (old new : ArenaData (List Value)) (n : ℕ) (row : List Value) → AreBehind keys groups old.lists → n < length old.lists → IsTaken n row old new → IsOff keys groups old.lists n row new.lists
is_off keys groups old new n row h lt t = record {
  found = (subst (λ l. n < l) h.count lt, sym keyed.0);
  wide = AllByRecursion-weaker (λ r. length r ≡ h.width) (λ r. length r ≡ length row) (rows_of groups) (λ r w. w ∙ sym own) (AllByRecursion-left (λ r. length r ≡ h.width) (rows_of groups) (rows_of old.lists) h.wide);
  below = (each_perm (λ r. AreBelow (length r) keys) rows h.below).0;
  count = ap length t.lists ∙ length-set old.lists n (get_or new.lists n []);
  keyed = λ m. subst (λ (ls : List (List (List Value))). AllByRecursion (HasKey keys (order_of keys groups) m) (get_or ls m [])) (sym t.lists) (each m (cases_eq m n));
  rows = rows;
} where
  keyed : AllByRecursion (HasKey keys (order_of keys groups) n) (row ∷ get_or new.lists n [])
  keyed = subst (AllByRecursion (HasKey keys (order_of keys groups) n)) t.listed (h.keyed n)

  rows : Perm (rows_of old.lists) (row ∷ rows_of new.lists)
  rows = chains (rows-taken old.lists n row (get_or new.lists n []) lt t.listed) (is_same (ap (λ (ls : List (List (List Value))). row ∷ rows_of ls) (sym t.lists)))

  own : length row ≡ h.width
  own = (each_perm (λ r. length r ≡ h.width) rows (AllByRecursion-right (λ r. length r ≡ h.width) (rows_of groups) (rows_of old.lists) h.wide)).0

  each : (m : ℕ) → (m ≡ n) ⊎ (m ≡ n → ⊥) → AllByRecursion (HasKey keys (order_of keys groups) m) (get_or (slice_set old.lists n (get_or new.lists n [])) m [])
  each m (inl e) = subst (λ m. AllByRecursion (HasKey keys (order_of keys groups) m) (get_or (slice_set old.lists n (get_or new.lists n [])) m [])) (sym e)
      (subst (AllByRecursion (HasKey keys (order_of keys groups) n)) (sym (get_or-set_same old.lists n (get_or new.lists n []) [] lt)) keyed.1)
  each m (inr other) = subst (AllByRecursion (HasKey keys (order_of keys groups) m)) (sym (get_or-set_other old.lists n m (get_or new.lists n []) [] other)) (h.keyed m)

pub none_moved : (groups : GroupsData) (lists : List (List (List Value))) → AreBehind groups.keys groups.groups lists → AreMoved groups lists groups lists
none_moved groups lists h = record { keys = refl; order = refl; behind = h; rows = IsPermutation-refl (rows_of groups.groups ++ rows_of lists) }

pub moved_further : (old mid new : GroupsData) (lists some left : List (List (List Value))) → AreMoved old lists mid some → AreMoved mid some new left → AreMoved old lists new left
moved_further old mid new lists some left m n = record {
  keys = n.keys ∙ m.keys;
  order = n.order ∙ m.order;
  behind = n.behind;
  rows = IsPermutation-trans (rows_of old.groups ++ rows_of lists) (rows_of mid.groups ++ rows_of some) (rows_of new.groups ++ rows_of left) m.rows n.rows;
}

-- the removed row is in its group
pub one_moved : (old new : GroupsData) (lists left : List (List (List Value))) (n : ℕ) (row : List Value) → AreBehind old.keys old.groups lists → IsOff old.keys old.groups lists n row left → new.keys ≡ old.keys
    → order_of new.keys new.groups ≡ order_of old.keys old.groups → IsPermutation (rows_of old.groups ++ row ∷ []) (rows_of new.groups) → AreMoved old lists new left
one_moved old new lists left n row h off keys order put = record {
  keys = keys;
  order = order;
  behind = record {
    count = off.count ∙ h.count ∙ ap length (sym order);
    keyed = λ m. subst (λ (o : List (List Value)). AllByRecursion (HasKey new.keys o m) (get_or left m [])) (sym order) (subst (λ (ks : List ℕ). AllByRecursion (HasKey ks (order_of old.keys old.groups) m) (get_or left m [])) (sym keys) (off.keyed m));
    width = h.width;
    wide = each_perm (λ r. length r ≡ h.width) moved h.wide;
    below = subst (λ (ks : List ℕ). AreAllBelow ks (rows_of left)) (sym keys) (each_perm (λ r. AreBelow (length r) old.keys) off.rows h.below).1;
  };
  rows = to_permutation moved;
} where
  moved : Perm (rows_of old.groups ++ rows_of lists) (rows_of new.groups ++ rows_of left)
  moved = chains (before (rows_of old.groups) off.rows) (chains (is_same (sym (append_assoc (rows_of old.groups) (row ∷ []) (rows_of left)))) (after (rows_of left) (from_permutation (rows_of old.groups ++ row ∷ []) (rows_of new.groups) put)))

-- ---- which lists are empty

empty_list : {X : Type 0} (xs : List X) → length xs ≡ 0 → xs ≡ []
empty_list [] e = refl
empty_list (x ∷ xs) e = absurd (omega (arith, e))

-- the other lists don't change
pub others_stay : (all left rest : List (List (List Value))) (n : ℕ) → left ≡ slice_set all n (get_or left n []) → rest ≡ slice_set left n (get_or rest n []) → rest ≡ slice_set all n (get_or rest n [])
others_stay all left rest n l r = r ∙ ap (λ (ls : List (List (List Value))). slice_set ls n (get_or rest n [])) l ∙ set-set all n (get_or left n []) (get_or rest n [])

pub one_emptied : (all left : List (List (List Value))) (n : ℕ) → left ≡ slice_set all n (get_or left n []) → length (get_or left n []) ≡ 0 → left ≡ slice_set all n []
one_emptied all left n l e = l ∙ ap (slice_set all n) (empty_list (get_or left n []) e)

emptied-stays : (lists : List (List (List Value))) (n i : ℕ) → get_or lists i [] ≡ [] → get_or (slice_set lists n []) i [] ≡ []
emptied-stays [] n i e = refl
emptied-stays (l ∷ lists) zero zero e = refl
emptied-stays (l ∷ lists) zero (suc i) e = e
emptied-stays (l ∷ lists) (suc n) zero e = e
emptied-stays (l ∷ lists) (suc n) (suc i) e = emptied-stays lists n i e

emptied-here : (lists : List (List (List Value))) (n : ℕ) → get_or (slice_set lists n []) n [] ≡ []
emptied-here [] n = refl
emptied-here (l ∷ lists) zero = refl
emptied-here (l ∷ lists) (suc n) = emptied-here lists n

pub more_emptied : (lists left : List (List (List Value))) (n m : ℕ) → m ≡ n + 1 → ((i : ℕ) → i < n → get_or lists i [] ≡ []) → left ≡ slice_set lists n [] → (i : ℕ) → i < m → get_or left i [] ≡ []
more_emptied lists left n m next h e i lt = ap (λ (ls : List (List (List Value))). get_or ls i []) e ∙ step (cases_lt i n) where
  step : (i < n) ⊎ (n ≤ i) → get_or (slice_set lists n []) i [] ≡ []
  step (inl less) = emptied-stays lists n i (h i less)
  step (inr le) = ap (λ m. get_or (slice_set lists n []) m []) (let here : i ≡ n = omega (arith, le, lt, next) in here) ∙ emptied-here lists n

pub all_emptied : (lists : List (List (List Value))) (n : ℕ) → length lists ≤ n → ((i : ℕ) → i < n → get_or lists i [] ≡ []) → rows_of lists ≡ []
all_emptied [] n le h = refl
all_emptied (l ∷ lists) zero le h = absurd (omega (arith, le))
all_emptied (l ∷ lists) (suc n) le h = λ i. h 0 (omega arith) i ++ all_emptied lists n (omega (arith, le)) (λ j lt. h (suc j) (omega (arith, lt))) i

-- the number of lists doesn't change
pub count-left : (old now : GroupsData) (lists left : List (List (List Value))) → AreBehind old.keys old.groups lists → AreMoved old lists now left → length left ≡ length lists
count-left old now lists left h m = m.behind.count ∙ ap length m.order ∙ sym h.count

-- ---- the table

pub stored_none : (buckets : Buckets) (groups : GroupsData) (lists : List (List (List Value))) (is_sealed : Bool) → IsIndex buckets [] → groups.groups ≡ [] → lists ≡ [] → IsStored buckets groups lists is_sealed
stored_none buckets groups lists is_sealed index g l = record {
  index = subst (λ (gs : List (List (List Value))). IsIndex buckets (order_of groups.keys gs)) (sym g) index;
  behind = λ still. subst (λ (gs : List (List (List Value))). AreBehind groups.keys gs lists) (sym g) (subst (AreBehind groups.keys []) (sym l) (none_behind groups.keys));
  emptied = λ sealed. ap rows_of l;
}

pub stored_all : (buckets : Buckets) (old new : GroupsData) (lists left none : List (List (List Value))) → IsIndex buckets (order_of old.keys old.groups) → AreMoved old lists new left → none ≡ [] → IsStored buckets new none true
stored_all buckets old new lists left none index m e = record { index = subst (IsIndex buckets) (sym m.order) index; behind = λ still. absurd (true≢false still); emptied = λ sealed. ap rows_of e }

-- all rows are in the groups
pub rows_gathered : (old new : GroupsData) (lists left : List (List (List Value))) → AreMoved old lists new left → rows_of left ≡ [] → IsPermutation (rows_of old.groups ++ rows_of lists) (rows_of new.groups)
rows_gathered old new lists left m e = subst (IsPermutation (rows_of old.groups ++ rows_of lists)) (ap (λ (l : List (List Value)). rows_of new.groups ++ l) e ∙ append-nil (rows_of new.groups)) m.rows
