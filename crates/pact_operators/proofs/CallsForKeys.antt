-- What is emitted for one key after another, each for its own group, is emitted by groups.
use Rattle.std.proofs.Common.{◌≡◌, ℕ, List, [], ◌∷◌, refl}
use Rattle.std.specs.Prelude.{flat_map}
use Rattle.std.proofs.lemmas.List.Sorted.{IsPermutation-refl}
use Rattle.pact_bag.specs.Groups.{group_of_key}
use Rattle.pact_record.specs.declared.values.Value.{Value}
use Rattle.pact_operators.specs.Allowed.{Bag, CoGrouped, Grouped}

pub grouped : (f : List Value → Bag → Bag) (keys : List ℕ) (rows : Bag) (ks : List (List Value)) (out : Bag) → out ≡ flat_map (λ k. f k (group_of_key keys rows k)) ks → Grouped f keys rows ks out
grouped f keys rows [] out e = e
grouped f keys rows (k ∷ ks) out e =
    (group_of_key keys rows k, flat_map (λ j. f j (group_of_key keys rows j)) ks, IsPermutation-refl (group_of_key keys rows k), e, grouped f keys rows ks (flat_map (λ j. f j (group_of_key keys rows j)) ks) refl)

pub cogrouped : (f : List Value → Bag → Bag → Bag) (left_keys right_keys : List ℕ) (ls rs : Bag) (ks : List (List Value)) (out : Bag)
    → out ≡ flat_map (λ k. f k (group_of_key left_keys ls k) (group_of_key right_keys rs k)) ks → CoGrouped f left_keys right_keys ls rs ks out
cogrouped f left_keys right_keys ls rs [] out e = e
cogrouped f left_keys right_keys ls rs (k ∷ ks) out e =
    let rest = flat_map (λ j. f j (group_of_key left_keys ls j) (group_of_key right_keys rs j)) ks in (
      group_of_key left_keys ls k,
      group_of_key right_keys rs k,
      rest,
      IsPermutation-refl (group_of_key left_keys ls k),
      IsPermutation-refl (group_of_key right_keys rs k),
      e,
      cogrouped f left_keys right_keys ls rs ks rest refl,
    )
