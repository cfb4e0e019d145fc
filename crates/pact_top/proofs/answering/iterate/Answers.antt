use Rattle.std.proofs.lemmas.Result.{err_from_is_err_and}
use Rattle.pact_top.specs.CommandTexts.{ready_iterate}
use Rattle.pact_top.specs.Work.{repeated}
use Rattle.pact_top.proofs.CommandsRun.{made_err, made_texts}
use Rattle.pact_top.proofs.IterationsRun.{is_repeated}
use Rattle.pact_top.proofs.answering.iterate.Goals as goal

pub returns-in_err-repeated : goal.returns-in_err-repeated
returns-in_err-repeated g c =
    let e = err_from_is_err_and c.from_residual.result c.from_residual.ensures.1 in
    rw (e.1, e.2)
    (made_err (λ f. repeated f c.args.name.now c.args.source.now) (λ x. ready_iterate x c.args.limits.rounds c.args.limits.stable) c.in_err-repeated.field-0.0 c.in_err-repeated.ensures)

pub iteration_texts-requires-clause-inputs : goal.iteration_texts-requires-clause-inputs
iteration_texts-requires-clause-inputs g c = (is_repeated c.args.name.now c.args.source.now c.in_ok-repeated.repeated c.in_ok-repeated.ensures).inputs

pub iteration_texts-requires-clause-source : goal.iteration_texts-requires-clause-source
iteration_texts-requires-clause-source g c = (is_repeated c.args.name.now c.args.source.now c.in_ok-repeated.repeated c.in_ok-repeated.ensures).source

pub returns : goal.returns
returns g c =
    made_texts (λ f. repeated f c.args.name.now c.args.source.now) (λ x. ready_iterate x c.args.limits.rounds c.args.limits.stable) c.in_ok-repeated.repeated c.in_ok-texts.texts
    c.in_ok-repeated.ensures c.in_ok-texts.ensures
