use Rattle.std.proofs.lemmas.Result.{err_from_is_err_and}
use Rattle.std.proofs.Common.{[], Err}
use Rattle.pact_load.proofs.DecidedLoading.{text-NamesDiffer}
use Rattle.explain_report.specs.TextStages.{with_certificate}
use Rattle.explain_report.proofs.TextStages.{after_certificate, no_certificate, no_program, read_on}
use Rattle.explain_report.proofs.loading.check_of.Goals as goal

pub returns-in_err-program : goal.returns-in_err-program
returns-in_err-program g c =
    let e = err_from_is_err_and c.from_residual.result c.from_residual.ensures.1 in
    rw (e.1, e.2) (no_program c.args.name.now c.args.text.now (λ f. with_certificate f c.args.other.now) c.in_err-program.field-0.0 c.in_err-program.ensures)

pub returns-in_err-certificate : goal.returns-in_err-certificate
returns-in_err-certificate g c =
    let e = err_from_is_err_and c.from_residual-in_err-certificate.result c.from_residual-in_err-certificate.ensures.1 in
    let r = c.in_err-certificate.field-0.0 in
    let p = c.in_ok-program.program in
    rw (e.1, e.2) (read_on c.args.name.now c.args.text.now p c.in_ok-program.ensures (λ f. with_certificate f c.args.other.now) (Err r) (no_certificate p c.args.other.now r c.in_err-certificate.ensures))

pub followed-requires : goal.followed-requires
followed-requires g c = record { names = text-NamesDiffer c.args.name.now c.args.text.now c.in_ok-program.program [] c.in_ok-program.ensures }

pub returns : goal.returns
returns g c =
    let p = c.in_ok-program.program in
    read_on c.args.name.now c.args.text.now p c.in_ok-program.ensures (λ f. with_certificate f c.args.other.now) c.followed.result
    (after_certificate p c.args.other.now c.in_ok-certificate.certificate c.followed.result c.in_ok-certificate.ensures (rw (← c.bytes.ensures) c.followed.ensures))
