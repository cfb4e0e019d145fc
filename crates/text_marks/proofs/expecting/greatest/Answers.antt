use Rattle.std.proofs.Common.{arith}
use Rattle.text_marks.proofs.expecting.greatest.Goals as goal

pub greatest_between-requires-2-clause-order : goal.greatest_between-requires-2-clause-order
greatest_between-requires-2-clause-order c = omega (arith, c.loop-next.invariant.0, c.loop-next.invariant.2)
