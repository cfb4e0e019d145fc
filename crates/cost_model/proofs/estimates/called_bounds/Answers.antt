use Rattle.std.proofs.Common.{ap, sym, ◌∙◌}
use Rattle.tac_syntax.specs.EmitBounds.{least_emits, most_emits}
use Rattle.pact_operators.proofs.OwnFields.{body_of-none, body_of-some, got, got_none}
use Rattle.cost_model.proofs.estimates.called_bounds.Goals as goal

pub returns-in-Some-clause-least : goal.returns-in-Some-clause-least
returns-in-Some-clause-least c =
    let called = c.in-Some.called.now in
    c.bounds.ensures.least ∙ ap least_emits (sym (body_of-some c.args.functions.now c.args.number called (got c.args.functions.now c.args.number called c.in-Some.ensures.lookup.0 c.in-Some.ensures.lookup.1)))

pub returns-in-Some-clause-most : goal.returns-in-Some-clause-most
returns-in-Some-clause-most c =
    let called = c.in-Some.called.now in
    c.bounds.ensures.most ∙ ap most_emits (sym (body_of-some c.args.functions.now c.args.number called (got c.args.functions.now c.args.number called c.in-Some.ensures.lookup.0 c.in-Some.ensures.lookup.1)))

pub returns-in-None-clause-least : goal.returns-in-None-clause-least
returns-in-None-clause-least c = ap least_emits (sym (body_of-none c.args.functions.now c.args.number (got_none c.args.functions.now c.args.number c.in-None.ensures.lookup.0)))

pub returns-in-None-clause-most : goal.returns-in-None-clause-most
returns-in-None-clause-most c = ap most_emits (sym (body_of-none c.args.functions.now c.args.number (got_none c.args.functions.now c.args.number c.in-None.ensures.lookup.0)))
