use Rattle.text_marks.proofs.TextBounds.{first_start, next_start}
use Rattle.text_marks.proofs.bounds.line_start.Goals as goal

pub loop-init : goal.loop-init
loop-init c = first_start c.args.text.now

pub loop-preserved : goal.loop-preserved
loop-preserved c =
    next_start c.args.text.now _ c.loop.at c.line_at-next.result.1 c.line_at-next.result.0.now c.loop.invariant c.line_at-next.ensures.lines c.line_at-next.ensures.within
