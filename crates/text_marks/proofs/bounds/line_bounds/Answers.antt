use Rattle.text_marks.proofs.TextBounds.{bounds_inside, bounds_at}
use Rattle.text_marks.proofs.bounds.line_bounds.Goals as goal

pub returns-clause-inside : goal.returns-clause-inside
returns-clause-inside c =
    rw c.trim_line.ensures (bounds_inside c.args.text.now c.in_ok-at.at c.line_at.result.1 c.line_at.result.0.now c.in_ok-at.ensures.line.within c.line_at.ensures.lines)

pub returns-clause-line : goal.returns-clause-line
returns-clause-line c =
    rw c.trim_line.ensures (bounds_at c.args.text.now c.args.line c.in_ok-at.at c.line_at.result.1 c.line_at.result.0.now c.in_ok-at.ensures.line c.line_at.ensures.lines)
