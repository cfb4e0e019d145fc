use Rattle.std.proofs.lemmas.Result.{err_from_is_err_and}
use Rattle.std.proofs.Common.{Ok, Err}
use Rattle.explain_report.specs.TextStages.{with_source}
use Rattle.explain_report.proofs.TextStages.{after_source, all_rows, no_program, no_rows, no_source, read_on}
use Rattle.explain_report.proofs.loading.repeat_of.Goals as goal

pub returns-in_err-program : goal.returns-in_err-program
returns-in_err-program g c =
    let e = err_from_is_err_and c.from_residual.result c.from_residual.ensures.1 in
    rw (e.1, e.2) (no_program c.args.name.now c.args.text.now (λ f. with_source f c.args.source.now) c.in_err-program.field-0.0 c.in_err-program.ensures)

pub returns-in_err-_at : goal.returns-in_err-_at
returns-in_err-_at g c =
    let e = err_from_is_err_and c.from_residual-in_err-_at.result c.from_residual-in_err-_at.ensures.1 in
    let r = c.in_err-_at.field-0.0 in
    let p = c.in_ok-program.program in
    rw (e.1, e.2) (read_on c.args.name.now c.args.text.now p c.in_ok-program.ensures (λ f. with_source f c.args.source.now) (Err r) (no_source p c.args.source.now r c.in_err-_at.ensures))

pub returns-in_err-inputs : goal.returns-in_err-inputs
returns-in_err-inputs g c =
    let e = err_from_is_err_and c.from_residual-in_err-inputs.result c.from_residual-in_err-inputs.ensures.1 in
    let r = c.in_err-inputs.field-0.0 in
    let p = c.in_ok-program.program in
    rw (e.1, e.2)
    (read_on c.args.name.now c.args.text.now p c.in_ok-program.ensures (λ f. with_source f c.args.source.now) (Err r)
    (after_source p c.args.source.now c.in_ok-_at._at (Err r) c.in_ok-_at.ensures (no_rows p r c.in_err-inputs.ensures)))

pub returns : goal.returns
returns g c =
    let p = c.in_ok-program.program in
    let all = Ok (record { program = p; inputs = c.in_ok-inputs.inputs }) in
    read_on c.args.name.now c.args.text.now p c.in_ok-program.ensures (λ f. with_source f c.args.source.now) all
    (after_source p c.args.source.now c.in_ok-_at._at all c.in_ok-_at.ensures (all_rows p c.in_ok-inputs.inputs c.in_ok-inputs.ensures))
