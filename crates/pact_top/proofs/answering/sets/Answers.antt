use Rattle.std.proofs.Common.{refl}
use Rattle.std.proofs.lemmas.Result.{err_from_is_err_and}
use Rattle.pact_top.specs.CommandTexts.{ready_sets}
use Rattle.pact_load.specs.Loading.{program_file}
use Rattle.pact_top.proofs.CommandsRun.{made_err, made_texts}
use Rattle.pact_top.proofs.answering.sets.Goals as goal

pub returns-in_err-program : goal.returns-in_err-program
returns-in_err-program g c =
    let p = err_from_is_err_and c.from_residual.result c.from_residual.ensures.1 in
    rw (p.1, p.2) (made_err (λ f. program_file f c.args.name.now) ready_sets c.in_err-program.field-0.0 c.in_err-program.ensures)

pub returns : goal.returns
returns g c =
    made_texts (λ f. program_file f c.args.name.now) ready_sets c.in_ok-program.program c.out_alone.result c.in_ok-program.ensures
    (rw c.out_alone.ensures (c.in_ok-text.ensures, refl))
