use Rattle.std.proofs.Common.{take}
use Rattle.program_check.specs.NameTables.{IsTableOf}
use Rattle.pact_operators.specs.Resolved.{function_names}
use Rattle.program_check.proofs.name_tables.function_table.Given as goal

abbrev pub invariant-loop-function : goal.invariant-loop-function
invariant-loop-function l = IsTableOf (function_names (take l.function-index l.functions)) l.table.marks
