use Rattle.std.proofs.Common.{subst, sym}
use Rattle.pact_bag.specs.Rows.{HaveOneWidth}
use Rattle.iterate_plan.proofs.CutRows.{widths-next}
use Rattle.iterate_plan.proofs.cutting.cut.Goals as goal

pub push-requires : goal.push-requires
push-requires c =
    let rows = c.rows-row-items in
    widths-next c.args.columns.now rows.result.now c.loop-row.made c.loop-row.row-index _ c.in_ok-cut_row.field-0
    (subst HaveOneWidth (sym rows.ensures.rows) rows.ensures.one_width) c.loop-row-test.true c.row-item.is c.loop-row.invariant
    c.in_ok-cut_row.ensures
