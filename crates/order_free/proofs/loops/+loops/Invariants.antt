use Rattle.std.proofs.Common.{◌≡◌, ◌+◌, ◌*◌, drop}
use Rattle.tac_syntax.specs.Coding.{tall}
use Rattle.tac_syntax.specs.Trees.{only, code_of}
use Rattle.order_free.specs.Liveness.{is_live}
use Rattle.order_free.specs.OrderFree.{AreLoopsFree}
use Rattle.order_free.specs.Registers.{Register}
use Rattle.order_free.specs.Views.{registers_of}
use Rattle.order_free.proofs.loops.+loops.Given as goal

abbrev pub decreases-are_its_loops_free : goal.decreases-are_its_loops_free
decreases-are_its_loops_free l = 2 * tall (only l.stmt.now)

abbrev pub decreases-are_loops_free : goal.decreases-are_loops_free
decreases-are_loops_free l = 2 * tall l.body.now + 1

abbrev pub invariant-are_loops_free-loop-n : goal.invariant-are_loops_free-loop-n
invariant-are_loops_free-loop-n l =
    ((r : Register) → registers_of l.live r ≡ is_live (code_of (drop l.n l.stmts)) r (registers_of l.behind r)) × AreLoopsFree (code_of (drop l.n l.stmts)) (registers_of l.behind)
