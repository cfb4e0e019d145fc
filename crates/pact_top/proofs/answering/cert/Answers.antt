use Rattle.std.proofs.lemmas.Result.{err_from_is_err_and}
use Rattle.pact_top.specs.CommandTexts.{ready_cert}
use Rattle.pact_load.specs.Loading.{loaded}
use Rattle.pact_load.proofs.ProgramsLoaded.{is_loaded}
use Rattle.pact_top.proofs.CommandsRun.{made_err, made_texts}
use Rattle.pact_top.proofs.answering.cert.Goals as goal

pub returns-in_err-loaded : goal.returns-in_err-loaded
returns-in_err-loaded g c =
    let p = err_from_is_err_and c.from_residual.result c.from_residual.ensures.1 in
    rw (p.1, p.2) (made_err (λ f. loaded f c.args.name.now) (λ x. ready_cert x c.args.workers c.args.plans) c.in_err-loaded.field-0.0 c.in_err-loaded.ensures)

pub certificate_texts-requires-clause-names : goal.certificate_texts-requires-clause-names
certificate_texts-requires-clause-names g c = (is_loaded c.args.name.now c.in_ok-loaded.loaded c.in_ok-loaded.ensures).names

pub certificate_texts-requires-clause-inputs : goal.certificate_texts-requires-clause-inputs
certificate_texts-requires-clause-inputs g c = (is_loaded c.args.name.now c.in_ok-loaded.loaded c.in_ok-loaded.ensures).inputs

pub returns : goal.returns
returns g c = made_texts (λ f. loaded f c.args.name.now) (λ x. ready_cert x c.args.workers c.args.plans) c.in_ok-loaded.loaded c.in_ok-texts.texts c.in_ok-loaded.ensures c.in_ok-texts.ensures
