-- Records in groups by key.
use Rattle.std.specs.Prelude.{◌≡◌, ◌<◌, ℕ, false, List, [], ◌∷◌, ◌++◌, Option, None, Some, flat_map, get_or, length, map}
use Rattle.std.specs.List.{AllByRecursion}
use Rattle.std.specs.List.Sorted.{IsPermutation}
use Rattle.pact_bag.proofs.KeyGroups.{occurs}
use Rattle.pact_bag.proofs.KeyLists.{AreOnce}
use Rattle.pact_record.specs.declared.values.Value.{Value}
use Rattle.pact_record.specs.Record.{key_of}
use Rattle.pact_record.specs.Widths.{AreBelow}

abbrev pub first_key : List ℕ → List (List Value) → List Value
first_key keys group = key_of keys (get_or group 0 [])

-- records of one key
pub record IsGroup (keys : List ℕ) (group : List (List Value)) : Type 0 where
  pub some : 0 < length group
  pub same : AllByRecursion (λ row. key_of keys row ≡ first_key keys group) group

-- the key values of the groups
abbrev pub order_of : List ℕ → List (List (List Value)) → List (List Value)
order_of keys groups = map (first_key keys) groups

-- the records of all groups
abbrev pub rows_of : List (List (List Value)) → List (List Value)
rows_of groups = flat_map (λ group. group) groups

-- each key has one group
pub record AreGroups (keys : List ℕ) (groups : List (List (List Value))) : Type 0 where
  pub each : AllByRecursion (IsGroup keys) groups
  pub once : AreOnce (order_of keys groups)

-- each key field is a field of each row
abbrev pub AreAllBelow : List ℕ → List (List Value) → Type 0
AreAllBelow keys rows = AllByRecursion (λ row. AreBelow (length row) keys) rows

-- the place of a key in a list, if the list has it
abbrev pub IsFound : List (List Value) → List Value → Option ℕ → Type 0
IsFound keys key None = occurs key keys ≡ false
IsFound keys key (Some n) = (n < length keys) × (get_or keys n [] ≡ key)

-- the keys, with the key appended if it wasn't found
abbrev pub order_with : List (List Value) → List Value → Option ℕ → List (List Value)
order_with keys key None = keys ++ key ∷ []
order_with keys key (Some n) = keys

-- One more row is in the group of its key.
pub record IsPut (keys : List ℕ) (row : List Value) (found : Option ℕ) (old all : List (List (List Value))) : Type 0 where
  pub groups : AreGroups keys all
  pub order : order_of keys all ≡ order_with (order_of keys old) (key_of keys row) found
  pub rows : IsPermutation (rows_of old ++ row ∷ []) (rows_of all)

-- The key fields, and the groups in the order in which their keys came.
pub record GroupsData : Type 0 where
  pub keys : List ℕ
  pub groups : List (List (List Value))

-- the invariant of groups
pub record AreHeld (keys : List ℕ) (groups : List (List (List Value))) (none : List (List Value)) : Type 0 where
  pub grouped : AreGroups keys groups
  pub below : AreAllBelow keys (rows_of groups)
  pub empty : none ≡ []
