-- The model of the interpreter's machine, and its invariant.
use Rattle.std.specs.Prelude.{◌≡◌, ◌≤◌, ◌<◌, ◌++◌, Bool, true, false, Option, None, Some, List, [], ◌∷◌, length, map}
use Rattle.std.specs.List.{AllByRecursion}
use Rattle.pact_record.specs.Record.{key_of}
use Rattle.pact_record.specs.declared.values.Value.{Value}
use Rattle.pact_record.specs.declared.records.TheConstants.{MAX_FIELDS}
use Rattle.tac_syntax.specs.declared.statements.Rec.{Rec}
use Rattle.tac_syntax.specs.declared.statements.Rec.TheVariants.{Reg, Join}
use Rattle.tac_syntax.specs.Call.{CallInput, of_record, of_pair, of_group, of_groups, input_record, Store}
use Rattle.tac_interp.specs.declared.inputs.Input.{Input}
use Rattle.tac_interp.specs.declared.inputs.Input.TheVariants.{Record, Pair, Group, Groups}
use Rattle.tac_interp.specs.declared.machines.Machine.TheInside.{Inside}
use Rattle.pact_record.specs.Widths.{AreWide}
use Rattle.tac_syntax.specs.CallInputs.{HasWidth, IsOfRecord}

abbrev pub input_of : Input → CallInput
input_of (Record row) = of_record row.now
input_of (Pair left right) = of_pair left.now right.now
input_of (Group keys one group) = of_group (key_of keys.now one.now) group.now
input_of (Groups keys one left right) = of_groups (key_of keys.now one.now) left.now right.now

-- the record that a call lends to its registers
abbrev pub record_of : Input → Option (List Value)
record_of (Record row) = Some row.now
record_of (Pair left right) = None
record_of (Group keys one group) = None
record_of (Groups keys one left right) = None

-- the record from which key values are read has the key's fields
abbrev pub HasKeyFields : Input → Type 0
HasKeyFields (Group keys one group) = AllByRecursion (λ k. k < length one.now) keys.now
HasKeyFields (Groups keys one left right) = AllByRecursion (λ k. k < length one.now) keys.now
HasKeyFields input = Unit {0}

abbrev pub store_of : Inside → Store
store_of m = record { fields = m.records.fields; input = input_of m.input; values = m.values; records = m.records.records; loops = map (λ r. r.now) m.loops.items; emitted = m.emitted }

-- a statement reads a record of the input or of a loop, not a register or a join
abbrev pub IsGiven : Rec → Type 0
IsGiven (Reg k) = ⊥
IsGiven Join = ⊥
IsGiven from = Unit {0}

-- each record has the program's fields
pub record IsWide (s : Store) : Type 0 where
  pub fields_fit : s.fields ≤ MAX_FIELDS
  pub input_width : HasWidth s.fields s.input
  pub loop_widths : AreWide s.fields s.loops
  pub emitted_widths : AreWide s.fields s.emitted

-- All that a call emits. If the input's record passes, it comes last.
abbrev pub AreEmitted : Bool → CallInput → List (List Value) → List (List Value) → Type 0
AreEmitted false input emitted all = emitted ≡ all
AreEmitted true input emitted all = IsOfRecord input × (emitted ++ input_record input ∷ [] ≡ all)
