use Rattle.std.proofs.Common.{◌∙◌, sym}
use Rattle.csv_cuts.proofs.Marks.{plain_cut-line_end}
use Rattle.csv_cuts.proofs.cuts.plain_cut.Goals as goal

pub returns-clause-cut : goal.returns-clause-cut
returns-clause-cut c =
    let mark = sym c.begins_with_mark.ensures ∙ c.if-begins_with_mark.false in
    plain_cut-line_end c.args.text.now c.in_ok-line_feed.line_feed c.in_ok-line_feed.ensures.end (rw c.split_at.ensures.back at mark)
