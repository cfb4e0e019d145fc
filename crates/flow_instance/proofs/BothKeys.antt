-- The keys of two bags are the keys of the first, and those of the second that the first lacks.
use Rattle.std.proofs.Common.{◌≡◌, ◌++◌, ◌∷◌, [], ◌||◌, ℕ, Bool, true, false, not, cond, List, map, refl, ap, sym, ◌∙◌}
use Rattle.std.proofs.Math.Bool.{not-not}
use Rattle.std.specs.Prelude.{filter}
use Rattle.std.proofs.lemmas.List.Elements.{filter-append}
use Rattle.pact_bag.proofs.KeyGroups.{occurs, other_than}
use Rattle.pact_bag.specs.Groups.{distinct_keys, group_of_key, is_same_key}
use Rattle.pact_operators.specs.Allowed.{Bag, keys_in, keys_in_either}
use Rattle.pact_record.specs.Record.{key_of}
use Rattle.pact_record.specs.declared.values.Value.{Value}
use Rattle.flow_instance.specs.Grouping.{has_none}

filter-all : (ks : List (List Value)) → filter (λ k. true) ks ≡ ks
filter-all [] = refl
filter-all (k ∷ ks) = ap (λ (l : List (List Value)). k ∷ l) (filter-all ks)

once_more : (a b : Bool) (k : List Value) (test : List Value → Bool) (ks ls : List (List Value)) → test k ≡ a → filter test ks ≡ ls → filter test (cond b (k ∷ ks) ks) ≡ cond (not (not a || not b)) (k ∷ ls) ls
once_more true true k test ks ls e h = ap (λ (t : Bool). cond t (k ∷ filter test ks) (filter test ks)) e ∙ ap (λ (l : List (List Value)). k ∷ l) h
once_more false true k test ks ls e h = ap (λ (t : Bool). cond t (k ∷ filter test ks) (filter test ks)) e ∙ h
once_more true false k test ks ls e h = h
once_more false false k test ks ls e h = h

-- filtering out the keys in `o` and then j is the same as filtering out both at once
filter-both : (j : List Value) (o : List Value → Bool) (ks : List (List Value)) → filter (other_than j) (filter (λ k. not (o k)) ks) ≡ filter (λ k. not (is_same_key j k || o k)) ks
filter-both j o [] = refl
filter-both j o (k ∷ ks) =
    once_more (other_than j k) (not (o k)) k (other_than j) (filter (λ x. not (o x)) ks) (filter (λ x. not (is_same_key j x || o x)) ks) refl (filter-both j o ks)
    ∙ (λ i. cond (not (not-not (is_same_key j k) i || not-not (o k) i)) (k ∷ filter (λ x. not (is_same_key j x || o x)) ks) (filter (λ x. not (is_same_key j x || o x)) ks))

distinct_keys-append : (xs ys : List (List Value)) → distinct_keys (xs ++ ys) ≡ distinct_keys xs ++ filter (λ k. not (occurs k xs)) (distinct_keys ys)
distinct_keys-append [] ys = sym (filter-all (distinct_keys ys))
distinct_keys-append (x ∷ xs) ys =
    ap (λ (l : List (List Value)). x ∷ filter (other_than x) l) (distinct_keys-append xs ys)
    ∙ ap (λ (l : List (List Value)). x ∷ l) (filter-append (other_than x) (distinct_keys xs) (filter (λ k. not (occurs k xs)) (distinct_keys ys))
    ∙ ap (λ (l : List (List Value)). filter (other_than x) (distinct_keys xs) ++ l) (filter-both x (λ k. occurs k xs) (distinct_keys ys)))

lacks-more : (b : Bool) (row : List Value) (group : Bag) (o : Bool) → not o ≡ has_none group → not (b || o) ≡ has_none (cond b (row ∷ group) group)
lacks-more true row group o e = refl
lacks-more false row group o e = e

lacks : (keys : List ℕ) (rows : Bag) (k : List Value) → not (occurs k (map (key_of keys) rows)) ≡ has_none (group_of_key keys rows k)
lacks keys [] k = refl
lacks keys (row ∷ rows) k = lacks-more (is_same_key (key_of keys row) k) row (group_of_key keys rows k) (occurs k (map (key_of keys) rows)) (lacks keys rows k)

pub keys_of_both : (left_keys right_keys : List ℕ) (ls rs : Bag) → keys_in_either left_keys right_keys ls rs ≡ keys_in left_keys ls ++ filter (λ k. has_none (group_of_key left_keys ls k)) (keys_in right_keys rs)
keys_of_both left_keys right_keys ls rs =
    distinct_keys-append (map (key_of left_keys) ls) (map (key_of right_keys) rs) ∙ (λ i. keys_in left_keys ls ++ filter (λ k. lacks left_keys ls k i) (keys_in right_keys rs))
