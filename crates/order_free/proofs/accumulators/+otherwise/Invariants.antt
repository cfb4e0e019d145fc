use Rattle.std.proofs.Common.{◌≡◌, ◌||◌, ◌+◌, ◌*◌, drop}
use Rattle.tac_syntax.specs.Coding.{tall}
use Rattle.tac_syntax.specs.Trees.{only, code_of}
use Rattle.order_free.specs.Accumulators.{occurs_otherwise}
use Rattle.order_free.specs.Registers.{Register}
use Rattle.order_free.specs.Views.{registers_of}
use Rattle.order_free.proofs.accumulators.+otherwise.Given as goal

abbrev pub decreases-occur_otherwise : goal.decreases-occur_otherwise
decreases-occur_otherwise l = 2 * tall (only l.stmt.now)

abbrev pub decreases-occur_otherwise_in : goal.decreases-occur_otherwise_in
decreases-occur_otherwise_in l = 2 * tall l.body.now + 1

abbrev pub invariant-occur_otherwise_in-loop-stmt : goal.invariant-occur_otherwise_in-loop-stmt
invariant-occur_otherwise_in-loop-stmt l =
    (r : Register) → (registers_of l.found r || occurs_otherwise l.by r (code_of (drop l.stmt-index l.stmt-items))) ≡ occurs_otherwise l.by r (code_of l.stmt-items)
