use Rattle.std.proofs.Common.{◌∙◌, sym, arith}
use Rattle.csv_places.proofs.RowsScanned.{ends, ends_text, goes_on, starts}
use Rattle.csv_places.proofs.scanning.row_end.Goals as goal

pub loop-at-init : goal.loop-at-init
loop-at-init c = starts c.args.text.now c.args.from

pub returns-then-ends_row-clause-row : goal.returns-then-ends_row-clause-row
returns-then-ends_row-clause-row c =
    ends c.args.text.now c.args.from c.loop-at.at c.loop-at.fields c.loop-at.state c.loop-at-test.true (sym c.ends_row.ensures ∙ c.if-ends_row.true) c.loop-at.invariant

pub loop-at-preserved : goal.loop-at-preserved
loop-at-preserved c =
    goes_on c.args.text.now c.args.from c.loop-at.at c.loop-at.fields _ c.loop-at.state _ c.loop-at-test.true (sym c.ends_row.ensures ∙ c.if-ends_row.false) c.after-state.ensures c.ended_fields-fields.ensures
    c.loop-at.invariant

pub returns-clause-row : goal.returns-clause-row
returns-clause-row c = ends_text c.args.text.now c.args.from c.loop-at.at c.loop-at.fields c.loop-at.state (omega (arith, c.loop-at-test.false)) c.loop-at.invariant
