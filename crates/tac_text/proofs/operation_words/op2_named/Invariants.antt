use Rattle.std.proofs.Common.{◌≡◌, drop}
use Rattle.text_lines.specs.OperandWords.{named_in}
use Rattle.tac_text.specs.StatementSpelling.{op2_word}
use Rattle.tac_text.specs.declared.operation_words.TheConstants.{OPS2}
use Rattle.tac_text.proofs.operation_words.op2_named.Given as goal

abbrev pub invariant-loop-op : goal.invariant-loop-op
invariant-loop-op l = named_in op2_word (drop l.op-index OPS2) l.word ≡ named_in op2_word OPS2 l.word
