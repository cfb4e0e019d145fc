use Rattle.std.proofs.Common.{refl}
use Rattle.std.proofs.lemmas.Result.{err_from_is_err_and}
use Rattle.pact_load.proofs.DecidedLoading.{file-NamesDiffer}
use Rattle.pact_top.proofs.CommandsRun.{check_certificate, check_program, check_refused, check_told}
use Rattle.pact_top.proofs.answering.check.Goals as goal

pub returns-in_err-program : goal.returns-in_err-program
returns-in_err-program g c =
    let e = err_from_is_err_and c.from_residual.result c.from_residual.ensures.1 in
    rw (e.1, e.2) (check_program c.args.name.now c.args.other.now c.in_err-program.field-0.0 c.in_err-program.ensures)

pub returns-in_err-certificate : goal.returns-in_err-certificate
returns-in_err-certificate g c =
    let e = err_from_is_err_and c.from_residual-in_err-certificate.result c.from_residual-in_err-certificate.ensures.1 in
    rw (e.1, e.2) (check_certificate c.args.name.now c.args.other.now c.in_ok-program.program c.in_ok-program.ensures c.in_err-certificate.field-0.0 c.in_err-certificate.ensures)

pub rechecked-requires : goal.rechecked-requires
rechecked-requires g c = record { names = file-NamesDiffer _ c.args.name.now c.in_ok-program.program c.in_ok-program.ensures.told.readings c.in_ok-program.ensures.told.ends }

pub returns-in_err-_plan : goal.returns-in_err-_plan
returns-in_err-_plan g c =
    let e = err_from_is_err_and c.from_residual-in_err-_plan.result c.from_residual-in_err-_plan.ensures.1 in
    rw (e.1, e.2)
    (check_refused c.args.name.now c.args.other.now c.in_ok-program.program c.in_ok-program.ensures c.in_ok-certificate.certificate c.in_ok-certificate.ensures c.in_err-_plan.field-0.0 c.in_err-_plan.ensures)

pub returns : goal.returns
returns g c =
    let r = c.in_ok-_plan.ensures in
    check_told c.args.name.now c.args.other.now c.in_ok-program.program c.in_ok-program.ensures c.in_ok-certificate.certificate c.in_ok-certificate.ensures c.in_ok-_plan._plan c.out_alone.result r.decides
    (rw c.out_alone.ensures (record { told = c.in_ok-text.ensures; line = r.line; reached = r.reached; answers = r.answers }, refl))
