use Rattle.std.proofs.lemmas.Result.{err_from_is_err_and}
use Rattle.pact_top.specs.Work.{certificate}
use Rattle.pact_load.proofs.AnswersOfStages.{comes_decided, comes_err}
use Rattle.pact_top.proofs.answering.load_certificate.Goals as goal

pub returns-in_err-text : goal.returns-in_err-text
returns-in_err-text g c =
    let e = err_from_is_err_and c.from_residual.result c.from_residual.ensures.1 in
    rw (e.1, e.2) (comes_err (λ f. certificate) c.in_err-text.field-0.0 c.in_err-text.ensures)

pub returns : goal.returns
returns g c = comes_decided certificate c.in_ok-text.text c.certificate_in.result c.in_ok-text.ensures (rw (← c.bytes.ensures) c.certificate_in.ensures)
