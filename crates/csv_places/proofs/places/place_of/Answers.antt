use Rattle.csv_places.proofs.RowNumbers.{has_fields}
use Rattle.csv_places.proofs.places.place_of.Goals as goal

pub returns-clause-row : goal.returns-clause-row
returns-clause-row c = has_fields c.args.text.now c.in_ok-start.start c.row_end-end.result.at _ c.row_end-end.result.fields _ c.in_ok-start.ensures.row c.row_end-end.ensures.row c.number_of.ensures
