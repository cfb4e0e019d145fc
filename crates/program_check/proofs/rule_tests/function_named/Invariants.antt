use Rattle.std.proofs.Common.{◌≡◌, drop}
use Rattle.program_check.specs.ProgramRules.{function_named as named}
use Rattle.program_check.proofs.rule_tests.function_named.Given as goal

abbrev pub invariant-loop-function : goal.invariant-loop-function
invariant-loop-function l = named (drop l.function-index l.functions) l.name ≡ named l.functions l.name
