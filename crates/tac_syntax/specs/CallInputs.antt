-- What a function of each kind is called for.
use Rattle.std.specs.Prelude.{◌≡◌, ◌≤◌, ◌<◌, ◌+◌, ℕ, length}
use Rattle.pact_record.specs.Widths.{AreWide}
use Rattle.tac_syntax.specs.declared.functions.Kind.{Kind}
use Rattle.tac_syntax.specs.declared.functions.Kind.TheVariants.{Map, Match, Cross, Reduce, CoGroup}
use Rattle.tac_syntax.specs.Call.{CallInput, of_record, of_pair, of_group, of_groups}

-- a call for one record, for two, for a group, or for a group of either side
abbrev pub IsOfRecord : CallInput → Type 0
IsOfRecord (of_record row) = Unit {0}
IsOfRecord input = ⊥

abbrev pub IsOfPair : CallInput → Type 0
IsOfPair (of_pair left right) = Unit {0}
IsOfPair input = ⊥

abbrev pub IsOfGroup : CallInput → Type 0
IsOfGroup (of_group key group) = Unit {0}
IsOfGroup input = ⊥

abbrev pub IsOfGroups : CallInput → Type 0
IsOfGroups (of_groups key left right) = Unit {0}
IsOfGroups input = ⊥

-- a function of the kind is called for the input
abbrev pub IsInputOf : Kind → CallInput → Type 0
IsInputOf Map input = IsOfRecord input
IsInputOf Match input = IsOfPair input
IsInputOf Cross input = IsOfPair input
IsInputOf Reduce input = IsOfGroup input
IsInputOf CoGroup input = IsOfGroups input

-- The group of a Reduce has a record, and so has at least one of the two groups of a CoGroup.
abbrev pub HasSome : CallInput → Type 0
HasSome (of_group key group) = 0 < length group
HasSome (of_groups key left right) = 0 < length left + length right
HasSome input = Unit {0}

-- An input with a key has at least `keys` key values.
abbrev pub HasKeys : ℕ → CallInput → Type 0
HasKeys keys (of_record row) = Unit {0}
HasKeys keys (of_pair left right) = Unit {0}
HasKeys keys (of_group key group) = keys ≤ length key
HasKeys keys (of_groups key left right) = keys ≤ length key

-- Each record of an input has `fields` fields, and the group of a Reduce has a first record.
abbrev pub HasWidth : ℕ → CallInput → Type 0
HasWidth fields (of_record row) = length row ≡ fields
HasWidth fields (of_pair left right) = (length left ≡ fields) × (length right ≡ fields)
HasWidth fields (of_group key group) = (0 < length group) × AreWide fields group
HasWidth fields (of_groups key left right) = AreWide fields left × AreWide fields right
