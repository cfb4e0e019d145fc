use Rattle.std.proofs.Common.{◌∙◌, sym}
use Rattle.csv_cuts.proofs.Marks.{cut_marked, cuts_unmarked}
use Rattle.csv_cuts.proofs.cuts.cut_near.Goals as goal

pub returns-then-not-begins_with_mark-clause-cut : goal.returns-then-not-begins_with_mark-clause-cut
returns-then-not-begins_with_mark-clause-cut c =
    let unmarked = sym c.begins_with_mark.ensures ∙ c.if-not-begins_with_mark.true in
    cuts_unmarked c.args.text.now c.plain_cut.result unmarked c.plain_cut.ensures.cut

pub returns-clause-cut : goal.returns-clause-cut
returns-clause-cut c =
    let mark = sym c.begins_with_mark.ensures ∙ c.if-not-begins_with_mark.false in
    cut_marked c.args.text.now c.in_ok-at.at mark (rw c.split_at.ensures.back at c.in_ok-at.ensures.cut)
