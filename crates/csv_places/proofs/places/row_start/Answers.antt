use Rattle.std.proofs.Common.{◌-◌}
use Rattle.csv_places.proofs.RowNumbers.{begins, one_on}
use Rattle.csv_places.proofs.places.row_start.Goals as goal

pub loop-n-init : goal.loop-n-init
loop-n-init c = (c.next_row-at.ensures.skips 0 c.text_start.ensures.start, c.next_row-at.ensures.begins)

pub loop-n-preserved : goal.loop-n-preserved
loop-n-preserved c =
    let text = c.args.text.now in
    let here = begins text c.loop-n.at (c.loop-n.n - 1) c.if-at-text.false c.loop-n.invariant in
    (c.next_row-at-in-loop-n.ensures.skips _ (one_on text c.row_behind.result c.loop-n.n c.loop-n.auto.n (c.row_behind.ensures.passed (c.loop-n.n - 1) here)), c.next_row-at-in-loop-n.ensures.begins)
