use Rattle.std.proofs.Common.{length}
use Rattle.tac_syntax.specs.Grammar.{IsNumber}
use Rattle.text_lines.specs.Slots.{line_end, number}
use Rattle.text_lines.proofs.ListSlots.{ListRead}
use Rattle.program_text.specs.DeclarationWords.{number_word}
use Rattle.program_text.proofs.declaration_reading.read_numbers.Given as goal

abbrev pub invariant-loop-words : goal.invariant-loop-words
invariant-loop-words l = ListRead (number 0 255) line_end number_word IsNumber l.limit l.fn.words l.numbers l.words

abbrev pub decreases-loop-words : goal.decreases-loop-words
decreases-loop-words l = length l.words
