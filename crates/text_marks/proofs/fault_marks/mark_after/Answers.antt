use Rattle.std.proofs.Common.{rules}
use Rattle.text_marks.proofs.FaultPlaces.{mark_here}
use Rattle.text_marks.proofs.fault_marks.mark_after.Goals as goal

pub returns-then-branch : goal.returns-then-branch
returns-then-branch c = rw c.empty_mark.ensures (mark_here c.args.text.now c.args.fault c.args.at c.requires.inside c.requires.line c.requires.empty c.requires.none (search rules))
