-- Records by key. The first record of each key is in its group. The later ones are in a list until the table is sealed.
use Rattle.std.specs.Prelude.{◌≡◌, ℕ, Bool, true, false, List, [], ◌∷◌, ◌++◌, get_or, length}
use Rattle.std.specs.List.{AllByRecursion}
use Rattle.std.specs.List.Sorted.{IsPermutation}
use Rattle.pact_record.specs.declared.values.Value.{Value}
use Rattle.pact_record.specs.Record.{key_of}
use Rattle.pact_record.specs.Widths.{AreWide}
use Rattle.local_strategy.specs.Grouped.{AreAllBelow, GroupsData, order_of, rows_of}
use Rattle.group_table.specs.declared.buckets.Buckets.{Buckets}
use Rattle.group_table.specs.Tables.{IsIndex}

-- The key fields, the groups in the order in which their keys came, the lists by the same numbers, and whether the
-- table is sealed.
pub record TableData : Type 0 where
  pub keys : List ℕ
  pub groups : List (List (List Value))
  pub lists : List (List (List Value))
  pub is_sealed : Bool

-- the records, by whether it is sealed
abbrev pub held : Bool → List (List (List Value)) → List (List (List Value)) → List (List Value)
held false groups lists = rows_of groups ++ rows_of lists
held true groups lists = rows_of groups

-- There are as many lists as groups, and each list has records of its group's key. All records have one width, and the
-- key fields are below it.
pub record AreBehind (keys : List ℕ) (groups lists : List (List (List Value))) : Type 0 where
  pub count : length lists ≡ length (order_of keys groups)
  pub keyed : (n : ℕ) → AllByRecursion (λ row. key_of keys row ≡ get_or (order_of keys groups) n []) (get_or lists n [])
  pub width : ℕ
  pub wide : AreWide width (rows_of groups ++ rows_of lists)
  pub below : AreAllBelow keys (rows_of lists)

-- The invariant of a table. Until it is sealed, there is a list for each group. Once it is sealed, no list has a
-- record.
pub record IsStored (buckets : Buckets) (groups : GroupsData) (lists : List (List (List Value))) (is_sealed : Bool) : Type 0 where
  pub index : IsIndex buckets (order_of groups.keys groups.groups)
  pub behind : is_sealed ≡ false → AreBehind groups.keys groups.groups lists
  pub emptied : is_sealed ≡ true → rows_of lists ≡ []

-- A row with a new key is in a new group, with an empty list.
pub record IsNewGroup (row : List Value) (old : GroupsData) (lists : List (List (List Value))) (buckets : Buckets) (new : GroupsData) (more : List (List (List Value))) : Type 0 where
  pub keys : new.keys ≡ old.keys
  pub order : order_of new.keys new.groups ≡ order_of old.keys old.groups ++ key_of old.keys row ∷ []
  pub index : IsIndex buckets (order_of new.keys new.groups)
  pub rows : IsPermutation (rows_of old.groups ++ row ∷ []) (rows_of new.groups)
  pub listed : more ≡ lists ++ [] ∷ []

-- One more row is stored.
pub record IsAdded (row : List Value) (old : GroupsData) (lists : List (List (List Value))) (buckets : Buckets) (new : GroupsData) (more : List (List (List Value))) : Type 0 where
  pub keys : new.keys ≡ old.keys
  pub index : IsIndex buckets (order_of new.keys new.groups)
  pub behind : AreBehind new.keys new.groups more
  pub rows : IsPermutation ((rows_of old.groups ++ rows_of lists) ++ row ∷ []) (rows_of new.groups ++ rows_of more)

-- Records were moved from lists to their groups.
pub record AreMoved (old : GroupsData) (lists : List (List (List Value))) (new : GroupsData) (left : List (List (List Value))) : Type 0 where
  pub keys : new.keys ≡ old.keys
  pub order : order_of new.keys new.groups ≡ order_of old.keys old.groups
  pub behind : AreBehind new.keys new.groups left
  pub rows : IsPermutation (rows_of old.groups ++ rows_of lists) (rows_of new.groups ++ rows_of left)
