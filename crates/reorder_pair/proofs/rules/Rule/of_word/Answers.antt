use Rattle.std.proofs.Common.{◌∙◌, get_or, refl}
use Rattle.reorder_pair.specs.declared.rules.Rule.TheVariants.{MapMap}
use Rattle.reorder_pair.specs.declared.rules.TheConstants.{RULES}
use Rattle.reorder_pair.proofs.WordsOfRules.{other_word, others_all, others_next}
use Rattle.reorder_pair.proofs.rules.Rule.of_word.Goals as goal

pub loop-rule-preserved : goal.loop-rule-preserved
loop-rule-preserved c =
    others_next c.args.word.now c.loop-rule.rule-index (get_or RULES c.loop-rule.rule-index MapMap) MapMap refl
    (λ same. other_word c.as_bytes.result.now c.args.word.now c.if-eq.ensures (c.as_bytes.ensures.value ∙ c.word.ensures ∙ same)) c.loop-rule.invariant

pub returns-clause-none : goal.returns-clause-none
returns-clause-none c = others_all c.args.word.now c.loop-rule.rule-index c.loop-rule-test.false c.loop-rule.invariant
