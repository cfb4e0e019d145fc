use Rattle.std.proofs.Common.{◌∙◌, sym, arith}
use Rattle.csv_places.proofs.RowNumbers.{starts_marked, starts_short, starts_unmarked}
use Rattle.csv_places.proofs.scanning.text_start.Goals as goal

pub returns-then-text-lt3-clause-start : goal.returns-then-text-lt3-clause-start
returns-then-text-lt3-clause-start c = starts_short c.args.text.now c.if-text-lt3.true

pub returns-then-is_mark-clause-start : goal.returns-then-is_mark-clause-start
returns-then-is_mark-clause-start c = starts_marked c.args.text.now (omega (arith, c.if-text-lt3.false)) (sym c.is_mark.ensures ∙ c.if-is_mark.true)

pub returns-clause-start : goal.returns-clause-start
returns-clause-start c = starts_unmarked c.args.text.now (omega (arith, c.if-text-lt3.false)) (sym c.is_mark.ensures ∙ c.if-is_mark.false)
