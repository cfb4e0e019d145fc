-- Key values that occur among records.
use Rattle.std.specs.Prelude.{◌<◌, ◌⊎◌, ℕ, List, length}
use Rattle.pact_bag.specs.Groups.{group_of_key}
use Rattle.pact_record.specs.declared.values.Value.{Value}

-- some record has the key values
abbrev pub HasGroup : List ℕ → List (List Value) → List Value → Type 0
HasGroup keys rows key = 0 < length (group_of_key keys rows key)

-- some record of either side has the key values
abbrev pub HasEitherGroup : List ℕ → List ℕ → List (List Value) → List (List Value) → List Value → Type 0
HasEitherGroup left_keys right_keys lefts rights key = HasGroup left_keys lefts key ⊎ HasGroup right_keys rights key
