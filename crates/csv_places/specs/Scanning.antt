-- A reader's places inside a row, as states of csv's own machine.
use Rattle.std.specs.Prelude.{◌≡◌, ◌<◌, ◌+◌, ◌-◌, ◌++◌, ℕ, Bool, true, false, List, [], drop, get_or, length, slice_get, Some}
use Rattle.csv.specs.Machine.{ends_at_end, ends_with, next_record, step}
use Rattle.csv.specs.Reading.{default_config, records_from}
use Rattle.csv.specs.declared.parser.Terminator.TheVariants as term
use Rattle.csv_source.specs.CsvRows.{column_number, records_of}
use Rattle.csv.specs.declared.parser.State.TheVariants as machine
use Rattle.csv.specs.declared.parser.State.{State as MachineState}
use Rattle.csv.specs.declared.parser.Action.{Action}
use Rattle.csv.specs.declared.parser.Action.TheVariants as act
use Rattle.csv_places.specs.declared.scanning.State.{State}
use Rattle.csv_places.specs.declared.scanning.State.TheVariants.{Start, Plain, Quoted, Closing}

abbrev pub machine_state : State → MachineState
machine_state Start = machine.StartField
machine_state Plain = machine.InField
machine_state Quoted = machine.InQuoted
machine_state Closing = machine.AfterQuote

-- the state of csv's machine after a byte
abbrev pub state_after : State → ℕ → MachineState
state_after s byte = (step default_config (machine_state s) byte).0

-- what csv's machine does at a byte
abbrev pub action_at : State → ℕ → Action
action_at s byte = (step default_config (machine_state s) byte).1

abbrev pub ends_field : Action → Bool
ends_field act.EndField = true
ends_field act.EndRecord = true
ends_field act.Copy = false
ends_field act.Skip = false

-- how many fields, without the last one of a row, an action ends
abbrev pub ended_fields : Action → ℕ
ended_fields act.EndField = 1
ended_fields act.EndRecord = 0
ended_fields act.Copy = 0
ended_fields act.Skip = 0

-- A row that begins at `from` ends at `to`: csv reads a record from there, with that number of fields, and then the text
-- goes on after `to`.
pub record EndsRow (text : List ℕ) (from to count : ℕ) : Type 0 where
  pub fields : List (List ℕ)
  pub state : MachineState
  pub reads : next_record default_config machine.StartField [] [] (drop from text) ≡ Some (fields, state, drop (to + 1) text)
  pub counted : length fields ≡ count
  pub between : ends_at_end state ≡ false

-- whether a byte ends a row outside of quotes
abbrev pub is_line_end : ℕ → Bool
is_line_end byte = ends_with term.CRLF byte

-- A place between two rows with `index` rows before it: the text's records are those, and then the ones that csv reads
-- from there.
pub record IsAfterRows (text : List ℕ) (at index : ℕ) : Type 0 where
  pub before : List (List (List ℕ))
  pub state : MachineState
  pub turns : ℕ
  pub between : ends_at_end state ≡ false
  pub enough : length (drop at text) < turns
  pub records : records_of text ≡ before ++ records_from default_config turns state (drop at text)
  pub counted : length before ≡ index

-- a place where a row begins, with `index` rows before it
pub record BeginsRow (text : List ℕ) (at index : ℕ) : Type 0 where
  pub after : IsAfterRows text at index
  pub inside : at < length text
  pub byte : is_line_end (get_or text at 0) ≡ false

-- The row of that number, from 1, has that number of fields; a greater number counts as the greatest of 32 bits.
abbrev pub HasFields : List ℕ → ℕ → ℕ → Type 0
HasFields text row count = (fields : List (List ℕ)) × (slice_get (records_of text) (row - 1) ≡ Some fields) × (count ≡ column_number (length fields))
