-- The record that a call lends to its registers.
use Rattle.std.proofs.Common.{◌≡◌, ℕ, Option, Some, List, refl, sym, ap, ◌∙◌, subst}
use Rattle.pact_record.specs.declared.values.Value.{Value}
use Rattle.tac_syntax.specs.Call.{input_record}
use Rattle.tac_syntax.specs.CallInputs.{HasWidth, IsOfRecord}
use Rattle.tac_interp.specs.declared.inputs.Input.{Input}
use Rattle.tac_interp.specs.declared.inputs.Input.TheVariants.{Record, Pair, Group, Groups}
use Rattle.tac_interp.specs.Machine.{input_of, record_of}
use Rattle.tac_interp.specs.Registers.{IsLent, lent_row}

is_lent : (fields : ℕ) (input : Input) → IsOfRecord (input_of input) → HasWidth fields (input_of input) → IsLent fields (record_of input)
is_lent fields (Record row) h w = w
is_lent fields (Pair left right) h w = absurd h
is_lent fields (Group keys one group) h w = absurd h
is_lent fields (Groups keys one left right) h w = absurd h

-- the lent record has the width that the registers rely on
pub IsLent-input : (fields : ℕ) (input : Input) (lent : Option (List Value)) → lent ≡ record_of input → IsOfRecord (input_of input) → HasWidth fields (input_of input) → IsLent fields lent
IsLent-input fields input lent e h w = subst (IsLent fields) (sym e) (is_lent fields input h w)

the_record : (input : Input) → IsOfRecord (input_of input) → lent_row (record_of input) ≡ input_record (input_of input)
the_record (Record row) h = refl
the_record (Pair left right) h = absurd h
the_record (Group keys one group) h = absurd h
the_record (Groups keys one left right) h = absurd h

pub lent_row-input : (input : Input) (lent : Option (List Value)) → lent ≡ record_of input → IsOfRecord (input_of input) → lent_row lent ≡ input_record (input_of input)
lent_row-input input lent e h = ap lent_row e ∙ the_record input h

-- the lent record is the record of a call for one record
pub input-lent : (input : Input) (row : List Value) → record_of input ≡ Some row → IsOfRecord (input_of input) × (row ≡ input_record (input_of input))
input-lent (Record now) row e = (tt, sym (ap lent_row e))
input-lent (Pair left right) row e = cc
input-lent (Group keys one group) row e = cc
input-lent (Groups keys one left right) row e = cc
