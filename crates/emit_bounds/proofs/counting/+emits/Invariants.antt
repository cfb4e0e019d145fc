use Rattle.std.proofs.Common.{◌+◌, ◌*◌, drop}
use Rattle.tac_syntax.specs.Coding.{tall}
use Rattle.tac_syntax.specs.Trees.{only, code_of}
use Rattle.emit_bounds.proofs.EmitSums.{SumsOn}
use Rattle.emit_bounds.proofs.counting.+emits.Given as goal

abbrev pub decreases-emits_by : goal.decreases-emits_by
decreases-emits_by l = 2 * tall (only l.stmt.now)

abbrev pub decreases-emits_in : goal.decreases-emits_in
decreases-emits_in l = 2 * tall l.body.now + 1

abbrev pub invariant-emits_in-loop-stmt : goal.invariant-emits_in-loop-stmt
invariant-emits_in-loop-stmt l = SumsOn (code_of (drop l.stmt-index l.stmt-items)) (code_of l.stmt-items) l.found.least l.found.most
