use Rattle.std.proofs.Common.{length}
use Rattle.tac_syntax.specs.Grammar.{IsNumber}
use Rattle.text_lines.specs.Slots.{column, line_end}
use Rattle.text_lines.proofs.ListSlots.{ListRead}
use Rattle.program_text.specs.DeclarationWords.{column_word}
use Rattle.program_text.proofs.declaration_reading.read_columns.Given as goal

abbrev pub invariant-loop-words : goal.invariant-loop-words
invariant-loop-words l = ListRead column line_end column_word (λ c. IsNumber c.field) l.limit l.fn.words l.columns l.words

abbrev pub decreases-loop-words : goal.decreases-loop-words
decreases-loop-words l = length l.words
