use Rattle.std.proofs.Common.{take}
use Rattle.program_check.specs.NameTables.{IsTableOf}
use Rattle.pact_operators.specs.Resolved.{node_names}
use Rattle.program_check.proofs.name_tables.node_table.Given as goal

abbrev pub invariant-loop-decl : goal.invariant-loop-decl
invariant-loop-decl l = IsTableOf (node_names (take l.decl-index l.decls)) l.table.marks
