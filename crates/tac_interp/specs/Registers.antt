-- Registers of a call, of which only the first ones were set.
use Rattle.std.specs.Prelude.{◌≡◌, ◌≤◌, ℕ, zero, suc, List, [], ◌∷◌, Option, None, Some, length, map, replicate, slice_set}
use Rattle.std.specs.Borrow.{Bor}
use Rattle.pact_record.specs.declared.records.TheConstants.{MAX_FIELDS}
use Rattle.pact_record.specs.declared.values.Value.{Value}
use Rattle.pact_record.specs.declared.values.Value.TheVariants.{Null}
use Rattle.std.specs.List.{AllByRecursion}
use Rattle.tac_syntax.specs.Limits.{record_registers}
use Rattle.tac_syntax.specs.Call.{empty_record}
use Rattle.tac_interp.specs.declared.registers.Held.{Held}
use Rattle.tac_interp.specs.declared.registers.Held.TheVariants.{Blank, Own, Lent}
use Rattle.tac_interp.specs.declared.registers.RecordRegisters.TheInside.{Inside}

-- at least n registers: the first ones, and then the value that each had at the start
abbrev pub filled : {A : Type 0} → ℕ → A → List A → List A
filled zero blank first = first
filled (suc n) blank [] = blank ∷ filled n blank []
filled (suc n) blank (x ∷ first) = x ∷ filled n blank first

-- `lent` is the input's record, if registers may hold it without a copy
pub record RecordsData : Type 0 where
  pub fields : ℕ
  pub lent : Option (List Value)
  pub records : List (List Value)

abbrev pub lent_of : Option (Bor (List Value)) → Option (List Value)
lent_of None = None
lent_of (Some row) = Some row.now

abbrev pub lent_row : Option (List Value) → List Value
lent_row None = []
lent_row (Some row) = row

-- a record with that number of fields is lent
abbrev pub IsLent : ℕ → Option (List Value) → Type 0
IsLent fields None = ⊥
IsLent fields (Some row) = length row ≡ fields

-- the record in a register
abbrev pub row_of : ℕ → Option (List Value) → Held → List Value
row_of fields lent Blank = empty_record fields
row_of fields lent (Own row) = row
row_of fields lent Lent = lent_row lent

-- a record that is there has this number of fields
abbrev pub IsAsWide : ℕ → Option (List Value) → Held → Type 0
IsAsWide fields lent Blank = Unit {0}
IsAsWide fields lent (Own row) = length row ≡ fields
IsAsWide fields lent Lent = IsLent fields lent

abbrev pub AreAsWide : ℕ → Option (List Value) → List Held → Type 0
AreAsWide fields lent held = AllByRecursion (IsAsWide fields lent) held

-- what is moved out of a register with that record: the record, or nothing if it is the lent one
abbrev pub IsTaken : ℕ → Option (List Value) → List Value → Option (List Value) → Type 0
IsTaken fields lent row None = lent ≡ Some row
IsTaken fields lent row (Some taken) = (taken ≡ row) × (length taken ≡ fields)

abbrev pub records_of : Inside → RecordsData
records_of r = record {
  fields = r.source.fields;
  lent = lent_of r.source.lent;
  records = filled record_registers (empty_record r.source.fields) (map (row_of r.source.fields (lent_of r.source.lent)) r.held.items);
}

pub record AreKept (r : Inside) : Type 0 where
  pub fields_fit : r.source.fields ≤ MAX_FIELDS
  pub few : length r.held.items ≤ record_registers
  pub widths : AreAsWide r.source.fields (lent_of r.source.lent) r.held.items
  pub blank : r.null ≡ Null

abbrev pub new_records : ℕ → Option (List Value) → RecordsData
new_records fields lent = record { fields = fields; lent = lent; records = replicate record_registers (empty_record fields) }

abbrev pub with_record : RecordsData → ℕ → List Value → RecordsData
with_record r at row = record r { records = slice_set r.records at row }
