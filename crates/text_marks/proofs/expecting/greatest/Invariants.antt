use Rattle.std.proofs.Common.{◌<◌, ◌≤◌, ◌-◌}
use Rattle.std.specs.Prelude.{decimal}
use Rattle.text_marks.specs.Marks.{IsAccepted}
use Rattle.text_marks.proofs.expecting.greatest.Given as goal

abbrev pub invariant-loop-next : goal.invariant-loop-next
invariant-loop-next l = (l.best < l.next) × (2 ≤ l.next) × (l.next ≤ 18446744073709551615) × IsAccepted l.mark.from l.mark.to (decimal l.best) l.text

abbrev pub decreases-loop-next : goal.decreases-loop-next
decreases-loop-next l = 18446744073709551615 - l.next
