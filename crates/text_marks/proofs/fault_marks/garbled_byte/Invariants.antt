use Rattle.std.proofs.Common.{◌≤◌}
use Rattle.text_marks.proofs.fault_marks.garbled_byte.Given as goal

abbrev pub invariant-loop-at : goal.invariant-loop-at
invariant-loop-at l = (l.start ≤ l.from) × (l.from ≤ l.end)
