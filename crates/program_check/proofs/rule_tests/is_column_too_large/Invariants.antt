use Rattle.std.proofs.Common.{◌≡◌, drop}
use Rattle.program_check.specs.ProgramRules.{column_fields, some_too_large}
use Rattle.program_check.proofs.rule_tests.is_column_too_large.Given as goal

abbrev pub invariant-loop-column : goal.invariant-loop-column
invariant-loop-column l = some_too_large l.fields (column_fields (drop l.column-index l.columns)) ≡ some_too_large l.fields (column_fields l.columns)
