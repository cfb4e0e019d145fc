-- Bodies that name only existing registers.
use Rattle.std.specs.Prelude.{◌<◌}
use Rattle.tac_syntax.specs.declared.statements.Rec.{Rec}
use Rattle.tac_syntax.specs.declared.statements.Rec.TheVariants.{Reg}
use Rattle.tac_syntax.specs.Limits.{value_registers, record_registers}
use Rattle.tac_syntax.specs.Code.{Simple, load_int, load_text, load_null, move_value, get_field, get_at, get_key, apply_one, apply_two, new_record, copy_record, set_field, set_at, emit_record, Code, stop, plain, branch, again, each}

abbrev pub IsRecordInRange : Rec → Type 0
IsRecordInRange (Reg k) = k < record_registers
IsRecordInRange from = Unit {0}

abbrev pub AreOperandsInRange : Simple → Type 0
AreOperandsInRange (move_value to from) = from < value_registers
AreOperandsInRange (get_field to from field) = IsRecordInRange from
AreOperandsInRange (get_at to from at) = IsRecordInRange from × (at < value_registers)
AreOperandsInRange (apply_one to op a) = a < value_registers
AreOperandsInRange (apply_two to op a b) = (a < value_registers) × (b < value_registers)
AreOperandsInRange (copy_record to from) = IsRecordInRange from
AreOperandsInRange (set_field to field value) = (to < record_registers) × (value < value_registers)
AreOperandsInRange (set_at to at value) = (to < record_registers) × (at < value_registers) × (value < value_registers)
AreOperandsInRange (emit_record from) = from < record_registers
AreOperandsInRange statement = Unit {0}

abbrev pub IsTargetInRange : Simple → Type 0
IsTargetInRange (load_int to value) = to < value_registers
IsTargetInRange (load_text to bytes) = to < value_registers
IsTargetInRange (load_null to) = to < value_registers
IsTargetInRange (move_value to from) = to < value_registers
IsTargetInRange (get_field to from field) = to < value_registers
IsTargetInRange (get_at to from at) = to < value_registers
IsTargetInRange (get_key to at) = to < value_registers
IsTargetInRange (apply_one to op a) = to < value_registers
IsTargetInRange (apply_two to op a b) = to < value_registers
IsTargetInRange (new_record to) = to < record_registers
IsTargetInRange (copy_record to from) = to < record_registers
IsTargetInRange (set_field to field value) = to < record_registers
IsTargetInRange (set_at to at value) = to < record_registers
IsTargetInRange (emit_record from) = Unit {0}

abbrev pub AreRegistersInRange : Code → Type 0
AreRegistersInRange stop = Unit {0}
AreRegistersInRange (plain s next) = IsTargetInRange s × AreOperandsInRange s × AreRegistersInRange next
AreRegistersInRange (branch on body other next) = (on < value_registers) × AreRegistersInRange body × AreRegistersInRange other × AreRegistersInRange next
AreRegistersInRange (again count body next) = AreRegistersInRange body × AreRegistersInRange next
AreRegistersInRange (each name list body next) = AreRegistersInRange body × AreRegistersInRange next
