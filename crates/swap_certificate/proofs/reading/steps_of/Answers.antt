use Rattle.std.proofs.Common.{Err, ap, ◌∙◌}
use Rattle.std.proofs.lemmas.Result.{err_from_is_err_and}
use Rattle.swap_certificate.specs.declared.certificates.NotCertificate.TheVariants.{Shape}
use Rattle.swap_certificate.proofs.ReadBack.{one_error, step-at}
use Rattle.swap_certificate.proofs.reading.steps_of.Goals as goal

pub returns-in_err-step-clause-none : goal.returns-in_err-step-clause-none
returns-in_err-step-clause-none c fails steps all e =
    let p = err_from_is_err_and c.from_residual.result c.from_residual.ensures.1 in
    let s = step-at c.args.limit c.args.items.now steps c.loop-item.item-index c.item-item.result e all c.loop-item-test.true c.item-item.is in
    c.in_err-step.ensures.none (ap Err (one_error c.in_err-step.field-0.0 Shape c.from_residual.result (p.1 ∙ ap Err p.2) fails)) s.0 s.1 s.2
