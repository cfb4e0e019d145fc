use Rattle.std.proofs.Common.{◌≡◌, drop}
use Rattle.program_check.specs.ProgramRules.{some_too_large}
use Rattle.program_check.proofs.rule_tests.is_some_too_large.Given as goal

abbrev pub invariant-loop-number : goal.invariant-loop-number
invariant-loop-number l = some_too_large l.fields (drop l.number-index l.numbers) ≡ some_too_large l.fields l.numbers
