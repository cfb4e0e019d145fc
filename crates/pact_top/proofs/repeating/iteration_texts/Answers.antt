use Rattle.pact_top.proofs.IterationsRun.{iterated_wide, iteration_made}
use Rattle.pact_top.proofs.repeating.iteration_texts.Goals as goal

pub texts_of_rounds-requires-clause-widths : goal.texts_of_rounds-requires-clause-widths
texts_of_rounds-requires-clause-widths g c =
    let i = c.in_ok-iterated.iterated in
    iterated_wide c.args.repeated c.args.limits.rounds c.args.limits.stable i.rows i.rounds c.fields-fields.ensures.keeps c.requires.inputs c.requires.source c.in_ok-iterated.ensures

pub returns : goal.returns
returns g c =
    iteration_made c.args.repeated c.args.limits.rounds c.args.limits.stable c.in_ok-iterated.iterated c.texts_of_rounds.result c.fields-fields.ensures.keeps c.in_ok-iterated.ensures
    c.texts_of_rounds.ensures.lines c.texts_of_rounds.ensures.told
