use Rattle.csv_cuts.proofs.Marks.{place_more}
use Rattle.csv_cuts.proofs.cuts.scan_line_end.Goals as goal

pub loop-at-preserved : goal.loop-at-preserved
loop-at-preserved c = place_more c.args.text.now c.loop-at.at c.loop-at.place c.next_place-place.result c.loop-at-test.true c.loop-at.invariant c.next_place-place.ensures
