use Rattle.std.proofs.lemmas.Result.{err_from_is_err_and}
use Rattle.pact_load.specs.Loading.{rows, source_limit}
use Rattle.pact_load.proofs.AnswersOfStages.{comes_decided, comes_err}
use Rattle.pact_load.proofs.FilesRead.{comes_named}
use Rattle.pact_load.proofs.loading.load_rows.Goals as goal

pub returns-in_err-bytes : goal.returns-in_err-bytes
returns-in_err-bytes g c =
    let e = err_from_is_err_and c.from_residual.result c.from_residual.ensures.1 in
    rw (e.1, e.2) (comes_err (λ f. rows c.args.fields c.args.source.now) c.in_err-bytes.field-0.0 (comes_named c.bytes.result.now c.args.source.now.file source_limit c.bytes.ensures.text c.in_err-bytes.ensures))

pub returns : goal.returns
returns g c =
    comes_decided (rows c.args.fields c.args.source.now) c.in_ok-bytes.bytes c.rows_in.result (comes_named c.bytes.result.now c.args.source.now.file source_limit c.bytes.ensures.text c.in_ok-bytes.ensures)
    (rw (← c.bytes-3.ensures) c.rows_in.ensures)
