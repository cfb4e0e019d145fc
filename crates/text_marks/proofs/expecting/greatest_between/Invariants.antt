use Rattle.std.proofs.Common.{◌<◌, ◌-◌}
use Rattle.std.specs.Prelude.{decimal}
use Rattle.text_marks.specs.Expecting.{IsRefused}
use Rattle.text_marks.specs.Marks.{IsAccepted}
use Rattle.text_marks.proofs.expecting.greatest_between.Given as goal

abbrev pub invariant-loop-over : goal.invariant-loop-over
invariant-loop-over l = (l.best < l.over) × IsAccepted l.mark.from l.mark.to (decimal l.best) l.text × IsRefused l.mark.from l.mark.to l.text (decimal l.over)

abbrev pub decreases-loop-over : goal.decreases-loop-over
decreases-loop-over l = l.over - l.best
