use Rattle.std.proofs.Common.{◌≡◌, ◌+◌, ◌*◌, drop}
use Rattle.tac_syntax.specs.Code.{nesting}
use Rattle.tac_syntax.specs.Trees.{only, code_of}
use Rattle.tac_flow.specs.Sharing.{takes_numbers}
use Rattle.tac_flow.proofs.sharing.+numbers.Given as goal

abbrev pub decreases-takes_number : goal.decreases-takes_number
decreases-takes_number l = 2 * nesting (only l.stmt.now)

abbrev pub decreases-takes_numbers : goal.decreases-takes_numbers
decreases-takes_numbers l = 2 * nesting l.body.now + 1

abbrev pub invariant-takes_numbers-loop-stmt : goal.invariant-takes_numbers-loop-stmt
invariant-takes_numbers-loop-stmt l = takes_numbers (code_of (drop l.stmt-index l.stmt-items)) ≡ takes_numbers (code_of l.stmt-items)
