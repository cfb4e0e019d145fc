-- Pairs whose left records are found by the keys of the right one.
use Rattle.std.proofs.Common.{◌≡◌, ◌<◌, ◌+◌, ◌++◌, ◌∷◌, ◌||◌, not, [], ℕ, Bool, true, false, cond, List, length, take, get_or, refl, ap, sym, ◌∙◌, append-nil, append_assoc, subst, arith}
use Rattle.std.specs.Prelude.{flat_map}
use Rattle.std.specs.List.Sorted.{IsPermutation}
use Rattle.std.proofs.lemmas.List.{take_more}
use Rattle.flow_instance.proofs.Bags.{beside, crossed-left, crossed-nil, is_same, joined}
use Rattle.pact_bag.specs.Groups.{do_match, group_of_key, is_same_key}
use Rattle.pact_bag.proofs.KeyGroups.{group_keys}
use Rattle.std.specs.List.{AllByRecursion}
use Rattle.pact_operators.specs.Allowed.{Bag}
use Rattle.pact_bag.specs.Pairs.{crossed, has_null, matched, unless_null}
use Rattle.pact_record.proofs.Lists.{AllByRecursion-filter, AllByRecursion-get_or}
use Rattle.pact_record.proofs.Permutations.{flat_map-append, flat_map_perm, from_permutation, to_permutation, turn}
use Rattle.pact_record.specs.Record.{key_of}
use Rattle.pact_record.specs.Widths.{AreWide}
use Rattle.pact_record.specs.declared.values.Value.{Value}
use Rattle.flow_instance.proofs.KeptRecords.{wide_permuted}

pub group_wide : (fields : ℕ) (keys : List ℕ) (rows group : Bag) (k : List Value) → AreWide fields rows → IsPermutation (group_of_key keys rows k) group → AreWide fields group
group_wide fields keys rows group k wide p =
    wide_permuted fields (group_of_key keys rows k) group p (AllByRecursion-filter (λ (r : List Value). length r ≡ fields) (λ row. is_same_key (key_of keys row) k) rows wide)

-- a function that is called only if the keys are equal
abbrev pub equal : (List Value → List Value → Bag) → List ℕ → List ℕ → List Value → List Value → Bag
equal f left_keys right_keys l r = cond (do_match left_keys right_keys l r) (f l r) []

-- the calls for the records that match are those for the records of the group
if_matched : (f : List Value → Bag) (b : Bool) (l : List Value) (ls : Bag) → flat_map f (cond b (l ∷ ls) ls) ≡ cond b (f l) [] ++ flat_map f ls
if_matched f true l ls = refl
if_matched f false l ls = refl

matched_group : (f : List Value → List Value → Bag) (left_keys right_keys : List ℕ) (ls : Bag) (r : List Value)
    → flat_map (λ l. equal f left_keys right_keys l r) ls ≡ flat_map (λ l. f l r) (group_of_key left_keys ls (key_of right_keys r))
matched_group f left_keys right_keys [] r = refl
matched_group f left_keys right_keys (l ∷ ls) r =
    ap (λ (rest : Bag). equal f left_keys right_keys l r ++ rest) (matched_group f left_keys right_keys ls r)
    ∙ sym (if_matched (λ x. f x r) (is_same_key (key_of left_keys l) (key_of right_keys r)) l (group_of_key left_keys ls (key_of right_keys r)))

-- ---- both settings for Nulls in keys

cond_same : (b : Bool) (x : Bag) → cond b x x ≡ x
cond_same true x = refl
cond_same false x = refl

cond_both : (b : Bool) (x y : Bag) → cond b x [] ++ cond b y [] ≡ cond b (x ++ y) []
cond_both true x y = refl
cond_both false x y = refl

-- a right record matches all records of one key, or none
one_key : (nulls : Bool) (f : List Value → List Value → Bag) (keys : List ℕ) (k r : List Value) (group : Bag) → AllByRecursion (λ l. key_of keys l ≡ k) group
    → flat_map (λ l. unless_null nulls f keys l r) group ≡ cond (nulls || not (has_null k)) (flat_map (λ l. f l r) group) []
one_key nulls f keys k r [] h = sym (cond_same (nulls || not (has_null k)) [])
one_key nulls f keys k r (l ∷ group) h =
    (λ i. cond (nulls || not (has_null (h.0 i))) (f l r) [] ++ one_key nulls f keys k r group h.1 i) ∙ cond_both (nulls || not (has_null k)) (f l r) (flat_map (λ x. f x r) group)

matches_of : (nulls : Bool) (f : List Value → List Value → Bag) (left_keys right_keys : List ℕ) (ls : Bag) (r : List Value)
    → flat_map (λ l. matched nulls f left_keys right_keys l r) ls ≡ cond (nulls || not (has_null (key_of right_keys r))) (flat_map (λ l. f l r) (group_of_key left_keys ls (key_of right_keys r))) []
matches_of nulls f left_keys right_keys ls r =
    matched_group (unless_null nulls f left_keys) left_keys right_keys ls r
    ∙ one_key nulls f left_keys (key_of right_keys r) r (group_of_key left_keys ls (key_of right_keys r)) (group_keys left_keys ls (key_of right_keys r))

-- one right record whose key can't match
pub no_right : (nulls : Bool) (f : List Value → List Value → Bag) (left_keys right_keys : List ℕ) (ls out : Bag) (r : List Value) (may : Bool) → may ≡ (nulls || not (has_null (key_of right_keys r))) → may ≡ false
    → IsPermutation (out ++ flat_map (λ l. matched nulls f left_keys right_keys l r) ls) out
no_right nulls f left_keys right_keys ls out r may is e =
    let none = matches_of nulls f left_keys right_keys ls r ∙ ap (λ (b : Bool). cond b (flat_map (λ l. f l r) (group_of_key left_keys ls (key_of right_keys r))) []) (sym is ∙ e) in
    is_same (ap (λ (l : Bag). out ++ l) none ∙ append-nil out)

-- one right record whose key may match
pub some_right : (nulls : Bool) (f : List Value → List Value → Bag) (left_keys right_keys : List ℕ) (ls group out more : Bag) (r : List Value) (may : Bool) → may ≡ (nulls || not (has_null (key_of right_keys r))) → may ≡ true
    → IsPermutation (group_of_key left_keys ls (key_of right_keys r)) group → more ≡ out ++ flat_map (λ l. f l r) group
    → IsPermutation (out ++ flat_map (λ l. matched nulls f left_keys right_keys l r) ls) more
some_right nulls f left_keys right_keys ls group out more r may is e p m =
    let k = key_of right_keys r in
    let all = matches_of nulls f left_keys right_keys ls r ∙ ap (λ (b : Bool). cond b (flat_map (λ l. f l r) (group_of_key left_keys ls k)) []) (sym is ∙ e) in
    joined (is_same (ap (λ (l : Bag). out ++ l) all))
    (joined (beside (is_same refl) (to_permutation (flat_map_perm (λ l. f l r) (from_permutation (group_of_key left_keys ls k) group p)))) (is_same (sym m)))

-- one more right record, for any way of matching
pub one_right : (g : List Value → List Value → Bag) (ls rs out more : Bag) (n : ℕ) (r : List Value) → n < length rs → r ≡ get_or rs n r
    → IsPermutation (out ++ flat_map (λ l. g l r) ls) more
    → IsPermutation (flat_map (λ x. flat_map (λ l. g l x) ls) (take n rs)) out
    → IsPermutation (flat_map (λ x. flat_map (λ l. g l x) ls) (take (n + 1) rs)) more
one_right g ls rs out more n r lt e m h =
    let calls : List Value → Bag = λ x. flat_map (λ l. g l x) ls in
    joined (is_same (ap (flat_map calls) (take_more rs n r lt ∙ ap (λ (x : List Value). take n rs ++ x ∷ []) (sym e)) ∙ flat_map-append calls (take n rs) (r ∷ []) ∙ ap (λ (l : Bag). flat_map calls (take n rs) ++ l) (append-nil (calls r))))
    (joined (beside h (is_same refl)) m)

-- one more left record
pub pairs_more : (f : List Value → Bag) (xs : Bag) (n : ℕ) (x : List Value) (old new given whole : Bag) → n < length xs → x ≡ get_or xs n x → new ≡ old ++ flat_map f (take n xs) → given ≡ f x → whole ≡ new ++ given → whole ≡ old ++ flat_map f (take (n + 1) xs)
pairs_more f xs n x old new given whole lt e h g m =
    let more : flat_map f (take (n + 1) xs) ≡ flat_map f (take n xs) ++ f x =
    ap (flat_map f) (take_more xs n x lt ∙ ap (λ (y : List Value). take n xs ++ y ∷ []) (sym e)) ∙ flat_map-append f (take n xs) (x ∷ []) ∙ ap (λ (l : Bag). flat_map f (take n xs) ++ l) (append-nil (f x)) in
    m ∙ (λ i. h i ++ g i) ∙ append_assoc old (flat_map f (take n xs)) (f x) ∙ ap (λ (l : Bag). old ++ l) (sym more)

-- the width of one record
pub item_width : (fields : ℕ) (xs rows : Bag) (n : ℕ) (x : List Value) → xs ≡ rows → n < length xs → x ≡ get_or xs n x → AreWide fields rows → length x ≡ fields
item_width fields xs rows n x same lt e wide = ap length e ∙ AllByRecursion-get_or (λ (r : List Value). length r ≡ fields) xs n x lt (subst (AreWide fields) (sym same) wide)

pub turned_pairs : (g : List Value → List Value → Bag) (ls rs out : Bag) → IsPermutation (flat_map (λ x. flat_map (λ l. g l x) ls) rs) out → IsPermutation (crossed g ls rs) out
turned_pairs g ls rs out p = joined (to_permutation (turn g ls rs)) p

-- ---- a Cross

-- without keys all records are in one group
all_one : (keys : List ℕ) (rows : Bag) → group_of_key [] rows [] ≡ rows
all_one keys [] = refl
all_one keys (row ∷ rows) = ap (λ (l : Bag). row ∷ l) (all_one keys rows)

pub crossed_kept : (f : List Value → List Value → Bag) (keys : List ℕ) (ls group rs out : Bag) (k : List Value) → keys ≡ [] → k ≡ [] → IsPermutation (group_of_key keys ls k) group → out ≡ crossed f group rs → IsPermutation (crossed f ls rs) out
crossed_kept f keys ls group rs out k e n p o =
    let same : IsPermutation ls group = subst (λ (l : Bag). IsPermutation l group) (all_one keys ls) (subst (λ (x : List Value). IsPermutation (group_of_key [] ls x) group) n (subst (λ (ks : List ℕ). IsPermutation (group_of_key ks ls k) group) e p)) in
    joined (crossed-left f ls group rs same) (is_same (sym o))

pub crossed_none : (f : List Value → List Value → Bag) (ls rs : Bag) → length rs ≡ 0 → crossed f ls rs ≡ []
crossed_none f ls [] e = crossed-nil f ls
crossed_none f ls (r ∷ rs) e = absurd (omega (arith, e))
