-- Sets of registers as the code keeps them, and the operands of a statement without its blocks.
use Rattle.pact_record.specs.FieldSets.{has_field}
use Rattle.tac_syntax.specs.Trees.{Statement, one_line}
use Rattle.order_free.specs.declared.registers.Registers.{Registers}
use Rattle.order_free.specs.Registers.{value_at, record_at, RegisterSet, no_registers, has_operand, assigns}

-- the registers of a set, by their numbers
abbrev pub registers_of : Registers → RegisterSet
registers_of s (value_at k) = has_field s.values k
registers_of s (record_at k) = has_field s.records k

-- the operands of a statement of one line; a block has none of its own
abbrev pub operands_of : Statement → RegisterSet
operands_of (one_line s) = has_operand s
operands_of block = no_registers

abbrev pub target_of : Statement → RegisterSet
target_of (one_line s) = assigns s
target_of block = no_registers
