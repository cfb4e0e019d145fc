use Rattle.std.proofs.Common.{◌≡◌, drop, nat_le}
use Rattle.std.specs.List.{list_any}
use Rattle.program_check.specs.ProgramRules.{column_fields, times_in}
use Rattle.program_check.proofs.rule_tests.is_column_twice.Given as goal

abbrev pub invariant-loop-column : goal.invariant-loop-column
invariant-loop-column l =
    list_any (λ k. nat_le 2 (times_in k l.all)) (column_fields (drop l.column-index l.columns)) ≡ list_any (λ k. nat_le 2 (times_in k l.all)) (column_fields l.columns)
