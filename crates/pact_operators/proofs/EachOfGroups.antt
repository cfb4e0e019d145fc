-- What holds for each output for a group, or for a pair, holds for all that an operator emits.
use Rattle.std.proofs.Common.{◌≡◌, ◌<◌, ◌+◌, ◌⊎◌, inl, inr, ℕ, List, [], ◌∷◌, length, sym, subst, arith}
use Rattle.std.specs.Prelude.{flat_map}
use Rattle.std.specs.List.{AllByRecursion}
use Rattle.pact_bag.specs.Groups.{group_of_key, is_same_key}
use Rattle.pact_bag.proofs.KeyGroups.{distinct_keys_have_either, distinct_keys_have_groups, group_keys}
use Rattle.pact_record.specs.declared.values.Value.{Value}
use Rattle.pact_record.specs.Record.{key_of}
use Rattle.pact_record.proofs.Lists.{AllByRecursion-append, AllByRecursion-filter, AllByRecursion-flat_map, AllByRecursion-weaker}
use Rattle.pact_record.proofs.Permutations.{from_permutation, each_perm, length-perm}
use Rattle.tac_syntax.specs.Forms.{HaveKey}
use Rattle.pact_operators.specs.Allowed.{Bag, Grouped, CoGrouped, keys_in, keys_in_either}
use Rattle.pact_bag.specs.Pairs.{crossed}

-- ---- pairs

pub crossed_each : (P Q R : List Value → Type 0) (f : List Value → List Value → Bag) (ls rs : Bag) → AllByRecursion P ls → AllByRecursion Q rs
    → ((l r : List Value) → P l → Q r → AllByRecursion R (f l r)) → AllByRecursion R (crossed f ls rs)
crossed_each P Q R f ls rs h j e = AllByRecursion-flat_map P R (λ l. flat_map (f l) rs) ls h (λ l pl. AllByRecursion-flat_map Q R (f l) rs j (λ r pr. e l r pl pr))

-- ---- groups

grouped_for : (P R : List Value → Type 0) (keys : List ℕ) (f : List Value → Bag → Bag) (rows : Bag) → AllByRecursion P rows
    → ((k : List Value) (group : Bag) → AllByRecursion P group → HaveKey keys k group → 0 < length group → AllByRecursion R (f k group))
    → (ks : List (List Value)) → AllByRecursion (λ k. 0 < length (group_of_key keys rows k)) ks → (out : Bag) → Grouped f keys rows ks out → AllByRecursion R out
grouped_for P R keys f rows h e [] some out p = subst (AllByRecursion R) (sym p) tt
grouped_for P R keys f rows h e (k ∷ ks) some out p =
    let perm = from_permutation (group_of_key keys rows k) p.0 p.2 in
    let here = e k p.0 (each_perm P perm (AllByRecursion-filter P (λ r. is_same_key (key_of keys r) k) rows h)) (each_perm (λ r. key_of keys r ≡ k) perm (group_keys keys rows k))
    (omega (arith, some.0, length-perm perm)) in
    subst (AllByRecursion R) (sym p.3) (AllByRecursion-append R (f k p.0) p.1 here (grouped_for P R keys f rows h e ks some.1 p.1 p.4))

cogrouped_for : (P Q R : List Value → Type 0) (keys others : List ℕ) (f : List Value → Bag → Bag → Bag) (ls rs : Bag) → AllByRecursion P ls → AllByRecursion Q rs
    → ((k : List Value) (left right : Bag) → AllByRecursion P left → AllByRecursion Q right → HaveKey keys k left → HaveKey others k right → 0 < length left + length right → AllByRecursion R (f k left right))
    → (ks : List (List Value)) → AllByRecursion (λ k. 0 < length (group_of_key keys ls k) + length (group_of_key others rs k)) ks → (out : Bag) → CoGrouped f keys others ls rs ks out
    → AllByRecursion R out
cogrouped_for P Q R keys others f ls rs h j e [] some out p = subst (AllByRecursion R) (sym p) tt
cogrouped_for P Q R keys others f ls rs h j e (k ∷ ks) some out p =
    let lp = from_permutation (group_of_key keys ls k) p.0 p.3 in
    let rp = from_permutation (group_of_key others rs k) p.1 p.4 in
    let here = e k p.0 p.1 (each_perm P lp (AllByRecursion-filter P (λ r. is_same_key (key_of keys r) k) ls h)) (each_perm Q rp (AllByRecursion-filter Q (λ r. is_same_key (key_of others r) k) rs j))
    (each_perm (λ r. key_of keys r ≡ k) lp (group_keys keys ls k)) (each_perm (λ r. key_of others r ≡ k) rp (group_keys others rs k)) (omega (arith, some.0, length-perm lp, length-perm rp)) in
    subst (AllByRecursion R) (sym p.5) (AllByRecursion-append R (f k p.0 p.1) p.2 here (cogrouped_for P Q R keys others f ls rs h j e ks some.1 p.2 p.6))

-- ---- the keys of bags have records

either_some : (keys others : List ℕ) (ls rs : Bag) → AllByRecursion (λ k. 0 < length (group_of_key keys ls k) + length (group_of_key others rs k)) (keys_in_either keys others ls rs)
either_some keys others ls rs =
    AllByRecursion-weaker (λ k. (0 < length (group_of_key keys ls k)) ⊎ (0 < length (group_of_key others rs k))) (λ k. 0 < length (group_of_key keys ls k) + length (group_of_key others rs k)) (keys_in_either keys others ls rs)
    (λ k some. elim some as (λ _. 0 < length (group_of_key keys ls k) + length (group_of_key others rs k)) [ inl l ↦ omega (arith, l) | inr r ↦ omega (arith, r) ]) (distinct_keys_have_either keys others ls rs)

-- ---- all groups

pub grouped_each : (P R : List Value → Type 0) (keys : List ℕ) (f : List Value → Bag → Bag) (rows : Bag) → AllByRecursion P rows
    → ((k : List Value) (group : Bag) → AllByRecursion P group → HaveKey keys k group → 0 < length group → AllByRecursion R (f k group))
    → (out : Bag) → Grouped f keys rows (keys_in keys rows) out → AllByRecursion R out
grouped_each P R keys f rows h e out p = grouped_for P R keys f rows h e (keys_in keys rows) (distinct_keys_have_groups keys rows) out p

pub cogrouped_each : (P Q R : List Value → Type 0) (keys others : List ℕ) (f : List Value → Bag → Bag → Bag) (ls rs : Bag) → AllByRecursion P ls → AllByRecursion Q rs
    → ((k : List Value) (left right : Bag) → AllByRecursion P left → AllByRecursion Q right → HaveKey keys k left → HaveKey others k right → 0 < length left + length right → AllByRecursion R (f k left right))
    → (out : Bag) → CoGrouped f keys others ls rs (keys_in_either keys others ls rs) out → AllByRecursion R out
cogrouped_each P Q R keys others f ls rs h j e out p = cogrouped_for P Q R keys others f ls rs h j e (keys_in_either keys others ls rs) (either_some keys others ls rs) out p
