use Rattle.std.proofs.Common.{◌≤◌, length}
use Rattle.text_marks.proofs.functions.open_blocks.Given as goal

abbrev pub invariant-loop-number : goal.invariant-loop-number
invariant-loop-number l = l.at ≤ length l.text
