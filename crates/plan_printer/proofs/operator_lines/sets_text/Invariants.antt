use Rattle.std.proofs.Common.{take}
use Rattle.plan_printer.specs.SetsText.{AreLinesFrom}
use Rattle.plan_printer.proofs.operator_lines.sets_text.Given as goal

abbrev pub invariant-loop-n : goal.invariant-loop-n
invariant-loop-n l = AreLinesFrom l.program 0 (take l.n l.op-items) l.text
