use Rattle.std.proofs.lemmas.Result.{err_from_is_err_and}
use Rattle.std.proofs.Common.{Ok, Err}
use Rattle.explain_report.specs.TextStages.{with_rows}
use Rattle.explain_report.proofs.TextStages.{all_rows, no_program, no_rows, read_on}
use Rattle.explain_report.proofs.loading.load_of.Goals as goal

pub returns-in_err-program : goal.returns-in_err-program
returns-in_err-program g c =
    let e = err_from_is_err_and c.from_residual.result c.from_residual.ensures.1 in
    rw (e.1, e.2) (no_program c.args.name.now c.args.text.now with_rows c.in_err-program.field-0.0 c.in_err-program.ensures)

pub returns-in_err-inputs : goal.returns-in_err-inputs
returns-in_err-inputs g c =
    let e = err_from_is_err_and c.from_residual-in_err-inputs.result c.from_residual-in_err-inputs.ensures.1 in
    let r = c.in_err-inputs.field-0.0 in
    let p = c.in_ok-program.program in
    rw (e.1, e.2) (read_on c.args.name.now c.args.text.now p c.in_ok-program.ensures with_rows (Err r) (no_rows p r c.in_err-inputs.ensures))

pub returns : goal.returns
returns g c =
    let p = c.in_ok-program.program in
    read_on c.args.name.now c.args.text.now p c.in_ok-program.ensures with_rows (Ok (record { program = p; inputs = c.in_ok-inputs.inputs })) (all_rows p c.in_ok-inputs.inputs c.in_ok-inputs.ensures)
