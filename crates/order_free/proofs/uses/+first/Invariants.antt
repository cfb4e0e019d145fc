use Rattle.std.proofs.Common.{◌≡◌, ◌+◌, ◌*◌, drop}
use Rattle.tac_syntax.specs.Coding.{tall}
use Rattle.tac_syntax.specs.Trees.{only, code_of}
use Rattle.order_free.specs.Registers.{has_first}
use Rattle.order_free.proofs.uses.+first.Given as goal

abbrev pub decreases-reads_first : goal.decreases-reads_first
decreases-reads_first l = 2 * tall (only l.stmt.now)

abbrev pub decreases-has_first : goal.decreases-has_first
decreases-has_first l = 2 * tall l.body.now + 1

abbrev pub invariant-has_first-loop-stmt : goal.invariant-has_first-loop-stmt
invariant-has_first-loop-stmt l = has_first (code_of (drop l.stmt-index l.stmt-items)) ≡ has_first (code_of l.stmt-items)
