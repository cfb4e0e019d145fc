use Rattle.std.proofs.Common.{◌≡◌, take}
use Rattle.pact_operators.specs.Resolved.{function_names as listed}
use Rattle.program_check.proofs.gathering.function_names.Given as goal

abbrev pub invariant-loop-function : goal.invariant-loop-function
invariant-loop-function l = l.names.items ≡ listed (take l.function-index l.functions)
