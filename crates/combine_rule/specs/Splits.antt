-- The relation between a function of a group, its sender and its merger.
use Rattle.std.specs.Prelude.{◌≡◌, ℕ, List, [], ◌∷◌, ◌++◌, map}
use Rattle.pact_record.specs.declared.values.Value.{Value}
use Rattle.pact_record.specs.Record.{key_of}
use Rattle.tac_syntax.specs.Call.{of_group, Out}
use Rattle.tac_syntax.specs.Valid.{WithFields}

-- the output of a function for the key values and the records of a group
abbrev pub GroupCall : Type 0
GroupCall = List Value → List (List Value) → List (List Value)

-- the output of a call of the function, as each operator that calls it for a group has it
abbrev pub group_call : WithFields → GroupCall
group_call f key group = Out f.fields f.function.body (of_group key group)

-- the concatenation of the parts
abbrev pub all_parts : List (List (List Value)) → List (List Value)
all_parts [] = []
all_parts (part ∷ parts) = part ++ all_parts parts

-- For key values that some record has at the key fields: the sender emits exactly one record for each part of a group,
-- and it has these key values, too. For the sender's records of several parts, one after the other, the merger emits
-- what the function emits for these parts, one after the other.
pub record IsSplitIn (keys : List ℕ) (f sender merger : GroupCall) : Type 0 where
  pub partial : List Value → List (List Value) → List Value
  pub sends : (row : List Value) (part : List (List Value)) → sender (key_of keys row) part ≡ partial (key_of keys row) part ∷ []
  pub keyed : (row : List Value) (part : List (List Value)) → key_of keys (partial (key_of keys row) part) ≡ key_of keys row
  pub merges : (row : List Value) (parts : List (List (List Value)))
      → merger (key_of keys row) (map (partial (key_of keys row)) parts) ≡ f (key_of keys row) (all_parts parts)
