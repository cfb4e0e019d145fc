-- In which fields the records that a call emits may have a value.
use Rattle.std.specs.Prelude.{◌≡◌, ◌≢◌, ◌<◌, ◌⊎◌, ℕ, List, [], ◌∷◌, length}
use Rattle.std.specs.List.{AllByRecursion}
use Rattle.pact_record.specs.declared.values.Value.{Value}
use Rattle.pact_record.specs.declared.values.Value.TheVariants.{Null}
use Rattle.pact_record.specs.Record.{at_field}
use Rattle.tac_syntax.specs.Code.{Simple, set_field, set_at, Code, stop, plain, branch, again, each}
use Rattle.tac_syntax.specs.Call.{CallInput, of_record, of_pair, of_group, of_groups}

-- A record has a value in a field if it isn't Null there.
abbrev pub HasValue : ℕ → List Value → Type 0
HasValue field row = at_field row field ≢ Null

-- One of the records has a value in the field.
abbrev pub SomeHasValue : ℕ → List (List Value) → Type 0
SomeHasValue field [] = ⊥
SomeHasValue field (row ∷ rows) = HasValue field row ⊎ SomeHasValue field rows

-- One of the records of a call's input has a value in the field.
abbrev pub InputHasValue : ℕ → CallInput → Type 0
InputHasValue field (of_record row) = HasValue field row
InputHasValue field (of_pair left right) = HasValue field left ⊎ HasValue field right
InputHasValue field (of_group key group) = SomeHasValue field group
InputHasValue field (of_groups key left right) = SomeHasValue field left ⊎ SomeHasValue field right

-- A statement sets the field. A statement that takes its field from a register may set any field of the program.
abbrev pub NamesField : ℕ → ℕ → Simple → Type 0
NamesField fields field (set_field to k value) = field ≡ k
NamesField fields field (set_at to at value) = field < fields
NamesField fields field statement = ⊥

-- Some statement of a body sets the field.
abbrev pub Names : ℕ → ℕ → Code → Type 0
Names fields field stop = ⊥
Names fields field (plain s next) = NamesField fields field s ⊎ Names fields field next
Names fields field (branch on body other next) = Names fields field body ⊎ Names fields field other ⊎ Names fields field next
Names fields field (again count body next) = Names fields field body ⊎ Names fields field next
Names fields field (each name list body next) = Names fields field body ⊎ Names fields field next

-- each field that a body sets is below the number of fields
abbrev pub NamesBelow : ℕ → Code → Type 0
NamesBelow fields body = (field : ℕ) → Names fields field body → field < fields

-- A record of the program's width that is Null outside the fields in which the input has a value and those that the body sets.
pub record IsBounded (fields : ℕ) (body : Code) (input : CallInput) (row : List Value) : Type 0 where
  pub width : length row ≡ fields
  pub null : (field : ℕ) → (InputHasValue field input → ⊥) → (Names fields field body → ⊥) → at_field row field ≡ Null

abbrev pub AreBounded : ℕ → Code → CallInput → List (List Value) → Type 0
AreBounded fields body input rows = AllByRecursion (IsBounded fields body input) rows
