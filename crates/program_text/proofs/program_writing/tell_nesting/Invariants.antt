use Rattle.std.proofs.Common.{◌≤◌, take}
use Rattle.std.specs.List.{AllByRecursion}
use Rattle.tac_syntax.specs.Code.{nesting}
use Rattle.tac_syntax.specs.Limits.{nesting_limit}
use Rattle.program_text.proofs.program_writing.tell_nesting.Given as goal

abbrev pub invariant-loop-function : goal.invariant-loop-function
invariant-loop-function l = AllByRecursion (λ f. nesting f.body ≤ nesting_limit) (take l.function-index l.functions)
