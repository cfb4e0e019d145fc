use Rattle.std.proofs.Common.{◌≡◌, ◌+◌, ◌*◌, drop}
use Rattle.tac_syntax.specs.Coding.{tall}
use Rattle.tac_syntax.specs.Trees.{only, code_of}
use Rattle.order_free.specs.Liveness.{is_live}
use Rattle.order_free.specs.Registers.{Register}
use Rattle.order_free.specs.Views.{registers_of}
use Rattle.order_free.proofs.liveness.+live.Given as goal

abbrev pub decreases-live_before : goal.decreases-live_before
decreases-live_before l = 2 * tall (only l.stmt.now)

abbrev pub decreases-live_at_start : goal.decreases-live_at_start
decreases-live_at_start l = 2 * tall l.body.now + 1

abbrev pub invariant-live_at_start-loop-n : goal.invariant-live_at_start-loop-n
invariant-live_at_start-loop-n l = (r : Register) → registers_of l.live r ≡ is_live (code_of (drop l.n l.stmts)) r (registers_of l.behind r)
