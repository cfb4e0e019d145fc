use Rattle.std.proofs.Common.{◌∙◌, sym}
use Rattle.csv_places.proofs.RowNumbers.{skips}
use Rattle.csv_places.proofs.scanning.next_row.Goals as goal

pub loop-at-preserved : goal.loop-at-preserved
loop-at-preserved c index h =
    skips c.args.text.now c.loop-at.at index c.loop-at-test.true (sym c.is_line_end.ensures ∙ c.if-not-is_line_end.false) (c.loop-at.invariant index h)
