use Rattle.std.proofs.Common.{◌-◌, length}
use Rattle.tac_text.proofs.FunctionReads.{HasRead}
use Rattle.tac_text.proofs.function_reading.read_with.Given as goal

abbrev pub invariant-loop-behind : goal.invariant-loop-behind
invariant-loop-behind l = HasRead l.registers l.text l.at l.begun l.behind l.number

abbrev pub decreases-loop-behind : goal.decreases-loop-behind
decreases-loop-behind l = length l.text - l.behind
