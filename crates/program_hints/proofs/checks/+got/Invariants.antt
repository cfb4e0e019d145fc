use Rattle.std.proofs.Common.{◌≡◌, ◌+◌, ◌*◌, drop}
use Rattle.tac_syntax.specs.Coding.{tall}
use Rattle.tac_syntax.specs.Trees.{only, code_of}
use Rattle.program_hints.specs.Hints.{has_get}
use Rattle.program_hints.proofs.checks.+got.Given as goal

abbrev pub decreases-gets : goal.decreases-gets
decreases-gets l = 2 * tall (only l.stmt.now)

abbrev pub decreases-has_get : goal.decreases-has_get
decreases-has_get l = 2 * tall l.body.now + 1

abbrev pub invariant-has_get-loop-stmt : goal.invariant-has_get-loop-stmt
invariant-has_get-loop-stmt l = has_get (code_of (drop l.stmt-index l.stmt-items)) l.field ≡ has_get (code_of l.stmt-items) l.field
