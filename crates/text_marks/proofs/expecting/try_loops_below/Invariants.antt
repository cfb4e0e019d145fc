use Rattle.text_marks.specs.Expecting.{Extends, HasLoopsBelow}
use Rattle.text_marks.proofs.expecting.try_loops_below.Given as goal

abbrev pub invariant-loop-number : goal.invariant-loop-number
invariant-loop-number l = Extends l.mark.from l.mark.to l.text l.fn.found l.found × HasLoopsBelow l.mark.from l.mark.to l.text l.number l.found
