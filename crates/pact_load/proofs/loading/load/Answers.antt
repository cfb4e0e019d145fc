use Rattle.std.proofs.lemmas.Result.{err_from_is_err_and}
use Rattle.pact_load.proofs.ProgramsLoaded.{load_both, load_inputs, load_program}
use Rattle.pact_load.proofs.loading.load.Goals as goal

pub returns-in_err-program : goal.returns-in_err-program
returns-in_err-program g c =
    let p = err_from_is_err_and c.from_residual.result c.from_residual.ensures.1 in
    rw (p.1, p.2) (load_program c.args.name.now c.in_err-program.field-0.0 c.in_err-program.ensures)

pub returns-in_err-inputs : goal.returns-in_err-inputs
returns-in_err-inputs g c =
    let p = err_from_is_err_and c.from_residual-in_err-inputs.result c.from_residual-in_err-inputs.ensures.1 in
    rw (p.1, p.2) (load_inputs c.args.name.now c.in_ok-program.program c.in_err-inputs.field-0.0 c.in_ok-program.ensures c.in_err-inputs.ensures)

pub returns : goal.returns
returns g c = load_both c.args.name.now c.in_ok-program.program c.in_ok-inputs.inputs c.in_ok-program.ensures c.in_ok-inputs.ensures
