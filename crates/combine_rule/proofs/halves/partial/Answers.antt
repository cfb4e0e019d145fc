use Rattle.std.proofs.lemmas.Result.{IfOk-weaker}
use Rattle.pact_record.specs.FieldSets.{has_field}
use Rattle.combine_rule.proofs.BuiltPartials.{of_function, split_by}
use Rattle.combine_rule.proofs.halves.partial.Goals as goal

pub returns-clause-split : goal.returns-clause-split
returns-clause-split c =
    let f = c.args.f.now in
    let keys = c.args.keys.now in
    let set = has_field c.args.attributes in
    IfOk-weaker c.halves_of.result _ _ (λ p h. split_by f p.sender p.merger keys set c.function.ensures.valid c.requires
    (of_function f p.sender p.merger c.function.result.now c.fields.result keys set c.function.ensures.function c.fields.ensures h)) c.halves_of.ensures
