-- What a statement of one line names.
use Rattle.std.specs.Prelude.{◌<◌, ℕ}
use Rattle.tac_syntax.specs.declared.statements.Rec.{Rec}
use Rattle.tac_syntax.specs.Limits.{value_registers, record_registers}
use Rattle.tac_syntax.specs.Code.{Simple, load_int, load_text, load_null, move_value, get_field, get_at, get_key, apply_one, apply_two, new_record, copy_record, set_field, set_at, emit_record}

-- It names only registers that exist, fields below the number of fields, and records and key positions that exist.
abbrev pub NamesOnly : ℕ → (Rec → Type 0) → (ℕ → Type 0) → Simple → Type 0
NamesOnly fields HasRecord HasKey (load_int to value) = to < value_registers
NamesOnly fields HasRecord HasKey (load_text to bytes) = to < value_registers
NamesOnly fields HasRecord HasKey (load_null to) = to < value_registers
NamesOnly fields HasRecord HasKey (move_value to from) = (to < value_registers) × (from < value_registers)
NamesOnly fields HasRecord HasKey (get_field to from field) = (to < value_registers) × HasRecord from × (field < fields)
NamesOnly fields HasRecord HasKey (get_at to from at) = (to < value_registers) × HasRecord from × (at < value_registers)
NamesOnly fields HasRecord HasKey (get_key to at) = (to < value_registers) × HasKey at
NamesOnly fields HasRecord HasKey (apply_one to op a) = (to < value_registers) × (a < value_registers)
NamesOnly fields HasRecord HasKey (apply_two to op a b) = (to < value_registers) × (a < value_registers) × (b < value_registers)
NamesOnly fields HasRecord HasKey (new_record to) = to < record_registers
NamesOnly fields HasRecord HasKey (copy_record to from) = (to < record_registers) × HasRecord from
NamesOnly fields HasRecord HasKey (set_field to field value) = (to < record_registers) × (field < fields) × (value < value_registers)
NamesOnly fields HasRecord HasKey (set_at to at value) = (to < record_registers) × (at < value_registers) × (value < value_registers)
NamesOnly fields HasRecord HasKey (emit_record from) = from < record_registers
