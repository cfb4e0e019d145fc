use Rattle.std.proofs.Common.{sym}
use Rattle.text_marks.proofs.WordNeighbours.{joins_last}
use Rattle.text_marks.proofs.placing.joins_before.Goals as goal

pub returns-in-Some : goal.returns-in-Some
returns-in-Some c = rw (c.in-Some.ensures.cases.0, c.is_gap.ensures) (sym (joins_last c.in-Some._front.now c.in-Some.byte.now))
