use Rattle.std.proofs.Common.{◌≡◌, ◌++◌, take}
use Rattle.program_check.specs.ProgramRules.{column_fields}
use Rattle.program_check.proofs.gathering.with_fields.Given as goal

abbrev pub invariant-loop-column : goal.invariant-loop-column
invariant-loop-column l = l.more.items ≡ l.fn.fields.items ++ column_fields (take l.column-index l.columns)
