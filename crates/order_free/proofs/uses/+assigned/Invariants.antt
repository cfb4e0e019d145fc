use Rattle.std.proofs.Common.{◌≡◌, ◌||◌, ◌+◌, ◌*◌, drop}
use Rattle.tac_syntax.specs.Coding.{tall}
use Rattle.tac_syntax.specs.Trees.{only, code_of}
use Rattle.order_free.specs.Registers.{Register, is_assigned}
use Rattle.order_free.specs.Views.{registers_of}
use Rattle.order_free.proofs.uses.+assigned.Given as goal

abbrev pub decreases-assigned_by : goal.decreases-assigned_by
decreases-assigned_by l = 2 * tall (only l.stmt.now)

abbrev pub decreases-assigned_in : goal.decreases-assigned_in
decreases-assigned_in l = 2 * tall l.body.now + 1

abbrev pub invariant-assigned_in-loop-stmt : goal.invariant-assigned_in-loop-stmt
invariant-assigned_in-loop-stmt l = (r : Register) → (registers_of l.found r || is_assigned (code_of (drop l.stmt-index l.stmt-items)) r) ≡ is_assigned (code_of l.stmt-items) r
