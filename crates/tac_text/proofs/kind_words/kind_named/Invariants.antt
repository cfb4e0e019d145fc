use Rattle.std.proofs.Common.{◌≡◌, drop}
use Rattle.text_lines.specs.OperandWords.{named_in}
use Rattle.tac_text.specs.FunctionLines.{kind_word}
use Rattle.tac_text.specs.declared.kind_words.TheConstants.{KINDS}
use Rattle.tac_text.proofs.kind_words.kind_named.Given as goal

abbrev pub invariant-loop-kind : goal.invariant-loop-kind
invariant-loop-kind l = named_in kind_word (drop l.kind-index KINDS) l.word ≡ named_in kind_word KINDS l.word
