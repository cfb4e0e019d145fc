-- The calls of a Reduce and a CoGroup, by the numbers of their keys.
use Rattle.std.proofs.Common.{◌≡◌, ◌<◌, ◌≤◌, ◌+◌, ℕ, zero, suc, Bool, true, false, cond, Option, Some, List, [], ◌∷◌, ◌++◌, length, map, take, refl, ap, sym, ◌∙◌, subst, arith, add-one, append-nil, append_assoc}
use Rattle.std.proofs.lemmas.List.{take_all}
use Rattle.std.specs.Prelude.{IfSome, filter, slice_get}
use Rattle.std.specs.List.{AllByRecursion}
use Rattle.std.specs.List.Sorted.{IsPermutation}
use Rattle.std.proofs.lemmas.List.Sorted.{IsPermutation-append_comm, IsPermutation-refl, length_permutation}
use Rattle.flow_instance.proofs.Bags.{beside, is_same, joined}
use Rattle.pact_bag.proofs.KeyGroups.{all-distinct, group_keys, keys_have_groups}
use Rattle.pact_bag.specs.Groups.{group_of_key}
use Rattle.pact_operators.specs.Allowed.{Bag, CoGrouped, Grouped, keys_in, keys_in_either}
use Rattle.pact_record.proofs.Lists.{AllByRecursion-slice_get}
use Rattle.pact_record.proofs.Permutations.{Perm, nothing, keeps, swaps, chains, each_perm, filter_perm, from_permutation, to_permutation}
use Rattle.pact_record.specs.Record.{key_of}
use Rattle.pact_record.specs.Widths.{AreWide}
use Rattle.pact_record.specs.declared.values.Value.{Value}
use Rattle.tac_syntax.specs.Valid.{WithFields}
use Rattle.flow_instance.specs.declared.grouping.Side.{Side}
use Rattle.flow_instance.specs.declared.grouping.Side.TheVariants.{Left, Right}
use Rattle.flow_instance.specs.Grouping.{AreCoGroupsGiven, AreGroupsAt, AreGroupsGiven, AreSides, EachGives, IsAppended, IsCalled, IsCalledAlone, IsCalledFrom, IsCalledIf, IsCoCalled, IsGivenFrom, has_none}
use Rattle.flow_instance.proofs.BothKeys.{keys_of_both}
use Rattle.flow_instance.proofs.PairsByKeys.{group_wide}

-- ---- the group of the key with a number

-- each key has at least one record
abbrev HaveGroups : List ℕ → Bag → List (List Value) → Type 0
HaveGroups keys rows ks = AllByRecursion (λ k. 0 < length (group_of_key keys rows k)) ks

-- the key with a number, and its group
pub record IsNumbered (keys : List ℕ) (rows : Bag) (order : List (List Value)) (n : ℕ) (group : Bag) : Type 0 where
  pub key : List Value
  pub is : slice_get order n ≡ Some key
  pub same : IsPermutation (group_of_key keys rows key) group
  pub some : 0 < length group

numbered : (keys : List ℕ) (rows : Bag) (order : List (List Value)) (n : ℕ) (group : Bag) → n < length order → HaveGroups keys rows order
    → IfSome (slice_get order n) (λ k. IsPermutation (group_of_key keys rows k) group) → IsNumbered keys rows order n group
numbered keys rows [] n group less h p = absurd (omega (arith, less))
numbered keys rows (k ∷ order) zero group less h p = record { key = k; is = refl; same = p; some = let some : 0 < length (group_of_key keys rows k) = h.0 in omega (arith, some, length_permutation (group_of_key keys rows k) group p) }
numbered keys rows (k ∷ order) (suc n) group less h p =
    let r = numbered keys rows order n group (omega (arith, less)) h.1 p in
    record { key = r.key; is = r.is; same = r.same; some = r.some }

all_have_groups : (keys : List ℕ) (rows : Bag) (order : List (List Value)) → IsPermutation (keys_in keys rows) order → HaveGroups keys rows order
all_have_groups keys rows order o =
    each_perm (λ (k : List Value). 0 < length (group_of_key keys rows k)) (from_permutation (keys_in keys rows) order o)
    (all-distinct (λ (k : List Value). 0 < length (group_of_key keys rows k)) (map (key_of keys) rows) (keys_have_groups keys rows))

pub numbered_as : {keys own : List ℕ} (rows : Bag) (order : List (List Value)) (n : ℕ) (group : Bag) → own ≡ keys → n < length order → IsPermutation (keys_in own rows) order
    → IfSome (slice_get order n) (λ k. IsPermutation (group_of_key own rows k) group) → IsNumbered keys rows order n group
numbered_as {keys} {own} rows order n group same less o p = subst (λ (ks : List ℕ). IsNumbered ks rows order n group) same (numbered own rows order n group less (all_have_groups own rows order o) p)

pub numbered_wide : {keys : List ℕ} {rows : Bag} {order : List (List Value)} {n : ℕ} {group : Bag} (fields : ℕ) → IsNumbered keys rows order n group → AreWide fields rows → AreWide fields group
numbered_wide {keys} {rows} {order} {n} {group} fields r wide = group_wide fields keys rows group r.key wide r.same

-- every record of a permuted group has the group's key
pub keys_of_group : (keys : List ℕ) (rows group : Bag) (k : List Value) → IsPermutation (group_of_key keys rows k) group → AllByRecursion (λ row. key_of keys row ≡ k) group
keys_of_group keys rows group k p = each_perm (λ (row : List Value). key_of keys row ≡ k) (from_permutation (group_of_key keys rows k) group p) (group_keys keys rows k)

pub called : {keys : List ℕ} {rows : Bag} {order : List (List Value)} {n : ℕ} {group : Bag} (f : List Value → Bag → Bag) (out : Bag) (r : IsNumbered keys rows order n group) → out ≡ f r.key group → IfSome (slice_get order n) (λ k. IsCalled f keys rows k out)
called {keys} {rows} {order} {n} {group} f out r told = subst (λ (o : Option (List Value)). IfSome o (λ k. IsCalled f keys rows k out)) (sym r.is) (group, r.same, told)

-- ---- one key more

pub each_more : (Gives : List Value → Bag → Type 0) (order : List (List Value)) (n : ℕ) (out given : Bag) → n < length order → EachGives Gives (take n order) out → IfSome (slice_get order n) (λ k. Gives k given)
    → EachGives Gives (take (suc n) order) (out ++ given)
each_more Gives [] n out given less g c = absurd (omega (arith, less))
each_more Gives (k ∷ order) zero out given less g c = (given, [], c, ap (λ (l : Bag). l ++ given) g ∙ sym (append-nil given), refl)
each_more Gives (k ∷ order) (suc n) out given less g c =
    (g.0, g.1 ++ given, g.2, ap (λ (l : Bag). l ++ given) g.3 ∙ append_assoc g.0 g.1 given, each_more Gives order n g.1 given (omega (arith, less)) g.4 c)

-- the output for a prefix of the keys, extended by the output for the next key
pub given_on : (fields : ℕ) (Gives : List Value → Bag → Type 0) (order : List (List Value)) (n : ℕ) (out whole : Bag) → n < length order → EachGives Gives (take n order) out
    → IsAppended (λ part. IfSome (slice_get order n) (λ k. Gives k part)) out whole → AreWide fields whole → EachGives Gives (take (n + 1) order) whole × AreWide fields whole
given_on fields Gives order n out whole less h g wide = (
  subst (λ (rows : Bag). EachGives Gives (take (n + 1) order) rows) (sym g.2) (subst (λ (m : ℕ). EachGives Gives (take m order) (out ++ g.0)) (sym (add-one n)) (each_more Gives order n out g.0 less h g.1)),
  wide,
)

-- the output for all keys
pub all_given : (Gives : List Value → Bag → Type 0) (order : List (List Value)) (n : ℕ) (out : Bag) → length order ≤ n → EachGives Gives (take n order) out → EachGives Gives order out
all_given Gives order n out past g = subst (λ (ks : List (List Value)). EachGives Gives ks out) (take_all n order past) g

-- ---- the same keys in another order

pub record IsGivenAs (Gives : List Value → Bag → Type 0) (ks : List (List Value)) (out : Bag) : Type 0 where
  pub other : Bag
  pub each : EachGives Gives ks other
  pub same : IsPermutation other out

in_order : (Gives : List Value → Bag → Type 0) {ks js : List (List Value)} → Perm ks js → (out : Bag) → EachGives Gives js out → IsGivenAs Gives ks out
in_order Gives nothing out g = record { other = out; each = g; same = IsPermutation-refl out }
in_order Gives (keeps p) out g =
    let rest = in_order Gives p g.1 g.4 in
    record { other = g.0 ++ rest.other; each = (g.0, rest.other, g.2, refl, rest.each); same = joined (beside (IsPermutation-refl g.0) rest.same) (is_same (sym g.3)) }
in_order Gives swaps out g =
    let second = g.4 in
    record {
      other = second.0 ++ (g.0 ++ second.1);
      each = (second.0, g.0 ++ second.1, second.2, refl, (g.0, second.1, g.2, refl, second.4));
      same = joined (is_same (sym (append_assoc second.0 g.0 second.1)))
          (joined (beside (IsPermutation-append_comm second.0 g.0) (IsPermutation-refl second.1))
          (is_same (append_assoc g.0 second.0 second.1 ∙ ap (λ (l : Bag). g.0 ++ l) (sym second.3) ∙ sym g.3)));
    }
in_order Gives (chains p q) out g =
    let last = in_order Gives q out g in
    let first = in_order Gives p last.other last.each in
    record { other = first.other; each = first.each; same = joined first.same last.same }

pub other_order : (Gives : List Value → Bag → Type 0) (ks js : List (List Value)) (out : Bag) → IsPermutation ks js → EachGives Gives js out → IsGivenAs Gives ks out
other_order Gives ks js out p g = in_order Gives (from_permutation ks js p) out g

-- ---- the output of a Reduce

grouped : (f : List Value → Bag → Bag) (keys : List ℕ) (rows : Bag) (ks : List (List Value)) (out : Bag) → EachGives (IsCalled f keys rows) ks out → Grouped f keys rows ks out
grouped f keys rows [] out g = g
grouped f keys rows (k ∷ ks) out g = (g.2.0, g.1, g.2.1, g.3 ∙ ap (λ (l : Bag). l ++ g.1) g.2.2, grouped f keys rows ks g.1 g.4)

pub groups_given : (f : List Value → Bag → Bag) (keys : List ℕ) (rows : Bag) (order : List (List Value)) (out : Bag) → IsPermutation (keys_in keys rows) order → EachGives (IsCalled f keys rows) order out → AreGroupsGiven f keys rows out
groups_given f keys rows order out p g =
    let turned = other_order (IsCalled f keys rows) (keys_in keys rows) order out p g in
    record { other = turned.other; grouped = grouped f keys rows (keys_in keys rows) turned.other turned.each; same = turned.same }

-- ---- the other side's group

pub row_width : {fields : ℕ} {keys : List ℕ} {rows : Bag} {order : List (List Value)} {n : ℕ} {group : Bag} {row : List Value} → IsNumbered keys rows order n group → AreWide fields rows → slice_get group 0 ≡ Some row → length row ≡ fields
row_width {fields} {keys} {rows} {order} {n} {group} {row} r wide e = AllByRecursion-slice_get (λ (x : List Value). length x ≡ fields) group 0 row (numbered_wide fields r wide) e

pub other_group : {keys : List ℕ} {rows : Bag} {order : List (List Value)} {n : ℕ} {group : Bag} {row : List Value} (others : List ℕ) (other_rows other : Bag) (r : IsNumbered keys rows order n group) → slice_get group 0 ≡ Some row
    → IsPermutation (group_of_key others other_rows (key_of keys row)) other → IsPermutation (group_of_key others other_rows r.key) other
other_group {keys} {rows} {order} {n} {group} {row} others other_rows other r e p =
    let key : key_of keys row ≡ r.key = AllByRecursion-slice_get (λ (x : List Value). key_of keys x ≡ r.key) group 0 row (keys_of_group keys rows group r.key r.same) e in
    subst (λ (k : List Value). IsPermutation (group_of_key others other_rows k) other) key p

-- two orders of the same rows agree on whether there is any row
has_none-same : (rows other : Bag) → IsPermutation rows other → has_none rows ≡ has_none other
has_none-same [] [] p = refl
has_none-same [] (row ∷ other) p = absurd (omega (arith, length_permutation [] (row ∷ other) p))
has_none-same (row ∷ rows) [] p = absurd (omega (arith, length_permutation (row ∷ rows) [] p))
has_none-same (row ∷ rows) (r ∷ other) p = refl

alone : (f : List Value → Bag → Bag → Bag) (left_keys right_keys : List ℕ) (ls rs : Bag) (k : List Value) (left right out : Bag) → IsPermutation (group_of_key left_keys ls k) left → IsPermutation (group_of_key right_keys rs k) right
    → IsCalledIf (has_none left) (λ given. given ≡ f k left right) out → IsCalledIf (has_none left) (IsCoCalled f left_keys right_keys ls rs k) out
alone f left_keys right_keys ls rs k [] right out p q told = ([], right, p, q, told)
alone f left_keys right_keys ls rs k (row ∷ left) right out p q told = told

by_side : (side : Side) (f : List Value → Bag → Bag → Bag) (keys other_keys : List ℕ) (rows others : Bag) (k : List Value) (own other out : Bag) → IsPermutation (group_of_key keys rows k) own → IsPermutation (group_of_key other_keys others k) other
    → IsGivenFrom side f k own other out → IsCalledFrom side f keys other_keys rows others k out
by_side Left f keys other_keys rows others k own other out p q told = (own, other, p, q, told)
by_side Right f keys other_keys rows others k own other out p q told =
    subst (λ (b : Bool). IsCalledIf b (IsCoCalled f other_keys keys others rows k) out) (sym (has_none-same (group_of_key other_keys others k) other q)) (alone f other_keys keys others rows k other own out q p told)

-- the output for the key with a number
pub called_from : {keys other_keys fields : List ℕ} {rows others : Bag} {order : List (List Value)} {n : ℕ} {own other : Bag} (side : Side) (f : List Value → Bag → Bag → Bag) (old new : Bag) → fields ≡ other_keys → AreGroupsAt keys fields rows others order n own other
    → ((k : List Value) → AllByRecursion (λ row. key_of keys row ≡ k) own → AllByRecursion (λ row. key_of other_keys row ≡ k) other → IsAppended (IsGivenFrom side f k own other) old new)
    → IsAppended (λ part. IfSome (slice_get order n) (λ k. IsCalledFrom side f keys other_keys rows others k part)) old new
called_from {keys} {other_keys} {fields} {rows} {others} {order} {n} {own} {other} side f old new same r told =
    let q = subst (λ (ks : List ℕ). IsPermutation (group_of_key ks others r.key) other) same r.other_same in
    let more = told r.key (keys_of_group keys rows own r.key r.same) (keys_of_group other_keys others other r.key q) in (
      more.0,
      subst (λ (o : Option (List Value)). IfSome o (λ k. IsCalledFrom side f keys other_keys rows others k more.0)) (sym r.is) (by_side side f keys other_keys rows others r.key own other more.0 r.same q more.1),
      more.2,
    )

-- ---- the output of a CoGroup

pub each_append : (Gives : List Value → Bag → Type 0) (ks js : List (List Value)) (out other : Bag) → EachGives Gives ks out → EachGives Gives js other → EachGives Gives (ks ++ js) (out ++ other)
each_append Gives [] js out other g h = subst (EachGives Gives js) (ap (λ (l : Bag). l ++ other) (sym g)) h
each_append Gives (k ∷ ks) js out other g h =
    (g.0, g.1 ++ other, g.2, ap (λ (l : Bag). l ++ other) g.3 ∙ append_assoc g.0 g.1 other, each_append Gives ks js g.1 other g.4 h)

-- Calls for the keys that the left side lacks emit together what the conditional calls for all keys of the right side
-- emit.
keep_lacking : (Gives : List Value → Bag → Type 0) (b : Bool) (k : List Value) (ks : List (List Value)) (part rest out : Bag) → IsCalledIf b (Gives k) part → out ≡ part ++ rest → EachGives Gives ks rest → EachGives Gives (cond b (k ∷ ks) ks) out
keep_lacking Gives true k ks part rest out p e g = (part, rest, p, e, g)
keep_lacking Gives false k ks part rest out p e g = subst (EachGives Gives ks) (sym (e ∙ ap (λ (l : Bag). l ++ rest) p)) g

pub lacking : (Gives : List Value → Bag → Type 0) (lacks : List Value → Bool) (ks : List (List Value)) (out : Bag) → EachGives (λ k part. IsCalledIf (lacks k) (Gives k) part) ks out → EachGives Gives (filter lacks ks) out
lacking Gives lacks [] out g = g
lacking Gives lacks (k ∷ ks) out g = keep_lacking Gives (lacks k) k (filter lacks ks) g.0 g.1 out g.2 g.3 (lacking Gives lacks ks g.1 g.4)

cogrouped : (f : List Value → Bag → Bag → Bag) (left_keys right_keys : List ℕ) (ls rs : Bag) (ks : List (List Value)) (out : Bag) → EachGives (IsCoCalled f left_keys right_keys ls rs) ks out → CoGrouped f left_keys right_keys ls rs ks out
cogrouped f left_keys right_keys ls rs [] out g = g
cogrouped f left_keys right_keys ls rs (k ∷ ks) out g =
    (g.2.0, g.2.1, g.1, g.2.2, g.2.3, g.3 ∙ ap (λ (l : Bag). l ++ g.1) g.2.4, cogrouped f left_keys right_keys ls rs ks g.1 g.4)

pub cogroups_given : (f : List Value → Bag → Bag → Bag) (left_keys right_keys : List ℕ) (ls rs : Bag) (left_order right_order : List (List Value)) (out other whole : Bag) → whole ≡ out ++ other → IsPermutation (keys_in left_keys ls) left_order → IsPermutation (keys_in right_keys rs) right_order
    → EachGives (IsCoCalled f left_keys right_keys ls rs) left_order out → EachGives (IsCalledAlone f left_keys right_keys ls rs) right_order other → AreCoGroupsGiven f left_keys right_keys ls rs whole
cogroups_given f left_keys right_keys ls rs left_order right_order out other whole is p q g h =
    let Gives = IsCoCalled f left_keys right_keys ls rs in
    let lacks : List Value → Bool = λ k. has_none (group_of_key left_keys ls k) in
    let order = left_order ++ filter lacks right_order in
    let all : IsPermutation (keys_in_either left_keys right_keys ls rs) order =
    joined (is_same (keys_of_both left_keys right_keys ls rs)) (beside p (to_permutation (filter_perm lacks (from_permutation (keys_in right_keys rs) right_order q)))) in
    let turned = other_order Gives (keys_in_either left_keys right_keys ls rs) order (out ++ other) all (each_append Gives left_order (filter lacks right_order) out other g (lacking Gives lacks right_order other h)) in
    record { other = turned.other; grouped = cogrouped f left_keys right_keys ls rs (keys_in_either left_keys right_keys ls rs) turned.other turned.each; same = joined turned.same (is_same (sym is)) }

-- ---- both sides

pub sides_turned : {f : WithFields} {left_keys right_keys left_fields right_fields : List ℕ} {ls rs : Bag} → AreSides f left_keys right_keys left_fields right_fields ls rs → AreSides f right_keys left_keys right_fields left_fields rs ls
sides_turned {f} {left_keys} {right_keys} {left_fields} {right_fields} {ls} {rs} s = record {
  kind = s.kind;
  left_count = s.right_count;
  right_count = s.left_count;
  left_below = s.right_below;
  right_below = s.left_below;
  left_same = s.right_same;
  right_same = s.left_same;
  left_wide = s.right_wide;
  right_wide = s.left_wide;
}

-- both sides have the groups of the key
pub sides_at : {f : WithFields} {keys other_keys own_fields other_fields : List ℕ} {rows others : Bag} {order : List (List Value)} {n : ℕ} {own other : Bag} → AreSides f keys other_keys own_fields other_fields rows others
    → AreGroupsAt keys other_fields rows others order n own other → AreSides f keys other_keys keys other_keys own other
sides_at {f} {keys} {other_keys} {own_fields} {other_fields} {rows} {others} {order} {n} {own} {other} s r = record {
  kind = s.kind;
  left_count = s.left_count;
  right_count = s.right_count;
  left_below = s.left_below;
  right_below = s.right_below;
  left_same = refl;
  right_same = refl;
  left_wide = group_wide f.fields keys rows own r.key s.left_wide r.same;
  right_wide = group_wide f.fields other_fields others other r.key s.right_wide r.other_same;
}

-- a key of the right side for which the left side has a record gets no call from the right side
pub given_none : (side : Side) (f : List Value → Bag → Bag → Bag) (k : List Value) (own other : Bag) → side ≡ Right → 0 < length other → IsGivenFrom side f k own other []
given_none side f k own [] e some = absurd (omega (arith, some))
given_none side f k own (row ∷ other) e some = subst (λ (s : Side). IsGivenFrom s f k own (row ∷ other) []) (sym e) refl

pub given_alone : (side : Side) (f : List Value → Bag → Bag → Bag) (k : List Value) (own other out : Bag) → side ≡ Right → length other ≤ 0 → out ≡ f k other own → IsGivenFrom side f k own other out
given_alone side f k own [] out e none told = subst (λ (s : Side). IsGivenFrom s f k own [] out) (sym e) told
given_alone side f k own (row ∷ other) out e none told = absurd (omega (arith, none))
