use Rattle.std.proofs.lemmas.Result.{err_from_is_err_and}
use Rattle.pact_load.specs.Loading.{program_of}
use Rattle.pact_load.proofs.AnswersOfStages.{comes_decided, comes_err}
use Rattle.pact_load.proofs.loading.load_program.Goals as goal

pub returns-in_err-text : goal.returns-in_err-text
returns-in_err-text g c =
    let e = err_from_is_err_and c.from_residual.result c.from_residual.ensures.1 in
    rw (e.1, e.2) (comes_err (λ f. program_of c.args.name.now) c.in_err-text.field-0.0 c.in_err-text.ensures)

pub returns : goal.returns
returns g c = comes_decided (program_of c.args.name.now) c.in_ok-text.text c.program_of.result c.in_ok-text.ensures (rw (← c.bytes.ensures) c.program_of.ensures)
