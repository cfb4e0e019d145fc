-- When a statement and a body may be run.
use Rattle.std.specs.Prelude.{◌≡◌, ◌≤◌, ◌<◌, ◌+◌, ℕ, List, length}
use Rattle.pact_record.specs.declared.values.Value.{Value}
use Rattle.tac_syntax.specs.declared.statements.Rec.{Rec}
use Rattle.tac_syntax.specs.declared.statements.Rec.TheVariants.{Reg, Loop, Input, Left, Right, Join, First}
use Rattle.tac_syntax.specs.Limits.{value_registers, record_registers}
use Rattle.tac_syntax.specs.Code.{Simple, Code}
use Rattle.tac_syntax.specs.NamedThings.{NamesOnly}
use Rattle.tac_syntax.specs.Trees.{Statement, one_line, choice, turning, going_through}
use Rattle.tac_syntax.specs.Call.{CallInput, Store, key_values}
use Rattle.tac_syntax.specs.Places.{Place, in_each}
use Rattle.tac_syntax.specs.CallInputs.{IsOfRecord, IsOfPair, IsOfGroup, IsInputOf, HasKeys}
use Rattle.tac_syntax.specs.InRange.{AreInRange}

-- A place fits a call, by its number of fields, its input, and the loops' names that are bound.
pub record Fits (p : Place) (width : ℕ) (input : CallInput) (loops : List (List Value)) : Type 0 where
  pub fields : p.fields ≡ width
  pub kind : IsInputOf p.kind input
  pub keys : HasKeys p.keys input
  pub lists : p.lists ≤ length loops

abbrev pub FitsStore : Place → Store → Type 0
FitsStore p s = Fits p s.fields s.input s.loops

-- a body in range at a place that fits
pub record IsReady (c : Code) (s : Store) : Type 0 where
  pub place : Place
  pub in_range : AreInRange place c
  pub fits : FitsStore place s

-- a record that can be read
abbrev pub HasRecord : Store → Rec → Type 0
HasRecord s (Reg k) = k < record_registers
HasRecord s (Loop name) = (1 ≤ name) × (name ≤ length s.loops)
HasRecord s Input = IsOfRecord s.input
HasRecord s Left = IsOfPair s.input
HasRecord s Right = IsOfPair s.input
HasRecord s Join = IsOfPair s.input
HasRecord s First = IsOfGroup s.input

-- What a statement of one line names exists.
abbrev pub CanAct : Simple → Store → Type 0
CanAct statement s = NamesOnly s.fields (HasRecord s) (λ at. at < length (key_values s.input)) statement

-- a body in range inside a loop over a list with that name, at a place that fits
pub record IsReadyIn (name : ℕ) (body : Code) (s : Store) : Type 0 where
  pub place : Place
  pub next_name : name ≡ place.lists + 1
  pub in_range : AreInRange (in_each place) body
  pub fits : FitsStore place s

-- What a statement names exists, and the bodies inside it may be run.
abbrev pub CanStart : Statement → Store → Type 0
CanStart (one_line a) s = CanAct a s
CanStart (choice on body other) s = (on < value_registers) × IsReady body s × IsReady other s
CanStart (turning count body) s = IsReady body s
CanStart (going_through name list body) s = IsReadyIn name body s
