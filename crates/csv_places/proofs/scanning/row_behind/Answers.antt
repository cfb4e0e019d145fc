use Rattle.std.proofs.Common.{arith}
use Rattle.csv_places.proofs.RowNumbers.{at_end, row_passed}
use Rattle.csv_places.proofs.scanning.row_behind.Goals as goal

pub returns-then-end-text-clause-passed : goal.returns-then-end-text-clause-passed
returns-then-end-text-clause-passed c index b =
    row_passed c.args.text.now c.args.from c.row_end-end.result.at c.row_end-end.result.fields index c.row_end-end.ensures.low b c.row_end-end.ensures.row

pub returns-else-end-text-clause-passed : goal.returns-else-end-text-clause-passed
returns-else-end-text-clause-passed c index b =
    at_end c.args.text.now c.row_end-end.result.at _ (omega (arith, c.if-end-text.false))
    (row_passed c.args.text.now c.args.from c.row_end-end.result.at c.row_end-end.result.fields index c.row_end-end.ensures.low b c.row_end-end.ensures.row)
