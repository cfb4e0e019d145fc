use Rattle.std.proofs.Common.{◌∙◌, sym}
use Rattle.tac_validate.proofs.Refusals.{keeps_all, refusal_at}
use Rattle.tac_validate.proofs.validation.validate.Goals as goal

pub returns-in-Some-clause-refused : goal.returns-in-Some-clause-refused
returns-in-Some-clause-refused c =
    refusal_at c.args.function c.args.fields c.loop-rule.rule-index c.in-Some.at c.code.result c.loop-rule-test.true (sym c.first_break.ensures ∙ c.in-Some.is) c.code.ensures c.loop-rule.invariant

pub seal-requires : goal.seal-requires
seal-requires c =
    keeps_all c.args.function c.args.fields c.loop-rule.rule-index c.loop-rule-test.false c.requires.some_field c.requires.few_fields c.loop-rule.invariant
