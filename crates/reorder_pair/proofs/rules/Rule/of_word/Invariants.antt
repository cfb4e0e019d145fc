use Rattle.reorder_pair.proofs.WordsOfRules.{AreOthers}
use Rattle.reorder_pair.proofs.rules.Rule.of_word.Given as goal

abbrev pub invariant-loop-rule : goal.invariant-loop-rule
invariant-loop-rule l = AreOthers l.word l.rule-index
