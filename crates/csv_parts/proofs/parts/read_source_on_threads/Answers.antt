use Rattle.std.proofs.lemmas.Result.{IfErr-weaker, IfOk-weaker}
use Rattle.csv_source.specs.CsvRows.{records_of}
use Rattle.csv_source.proofs.RowParts.{rows_or_bad_row, source_rows}
use Rattle.csv_parts.proofs.Outcomes.{only_memory}
use Rattle.csv_parts.proofs.parts.read_source_on_threads.Goals as goal

pub returns-clause-source_rows : goal.returns-clause-source_rows
returns-clause-source_rows g c =
    IfOk-weaker c.rows_in_parts.result _ _ (λ rows h. source_rows c.args.fields c.args.columns.now (records_of c.args.text.now) rows h) c.rows_in_parts.ensures.rows

pub returns-clause-rows_always : goal.returns-clause-rows_always
returns-clause-rows_always g c rows h =
    IfErr-weaker c.rows_in_parts.result _ _ (λ bad f. only_memory c.args.fields c.args.columns.now c.args.text.now rows bad h f) c.rows_in_parts.ensures.refused

pub returns-clause-bad_row_always : goal.returns-clause-bad_row_always
returns-clause-bad_row_always g c row column why f =
    IfOk-weaker c.rows_in_parts.result _ _ (λ rows h. rows_or_bad_row c.args.fields c.args.columns.now 1 (records_of c.args.text.now) rows row column why h f) c.rows_in_parts.ensures.rows
