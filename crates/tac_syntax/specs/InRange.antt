-- Statements whose numbers are in range at their places.
use Rattle.std.specs.Prelude.{◌≡◌, false}
use Rattle.std.specs.List.{AllByRecursion}
use Rattle.tac_syntax.specs.Code.{Code}
use Rattle.tac_syntax.specs.Places.{Place, Placed, placed}
use Rattle.tac_syntax.specs.Rules.{breaks_registers, breaks_operands, breaks_fields, breaks_key_positions}

-- a statement names registers, records, fields and key positions that its place has
pub record IsInRange (x : Placed) : Type 0 where
  pub registers : breaks_registers x.line ≡ false
  pub operands : breaks_operands x.place x.line ≡ false
  pub fields : breaks_fields x.place x.line ≡ false
  pub key_positions : breaks_key_positions x.place x.line ≡ false

-- Each statement of a body at a place is in range.
abbrev pub AreInRange : Place → Code → Type 0
AreInRange p c = AllByRecursion IsInRange (placed p c)
