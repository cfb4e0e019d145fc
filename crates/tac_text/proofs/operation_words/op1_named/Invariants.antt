use Rattle.std.proofs.Common.{◌≡◌, drop}
use Rattle.text_lines.specs.OperandWords.{named_in}
use Rattle.tac_text.specs.StatementSpelling.{op1_word}
use Rattle.tac_text.specs.declared.operation_words.TheConstants.{OPS1}
use Rattle.tac_text.proofs.operation_words.op1_named.Given as goal

abbrev pub invariant-loop-op : goal.invariant-loop-op
invariant-loop-op l = named_in op1_word (drop l.op-index OPS1) l.word ≡ named_in op1_word OPS1 l.word
