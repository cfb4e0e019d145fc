use Rattle.std.proofs.Common.{length}
use Rattle.tac_syntax.specs.Functions.{key_limit}
use Rattle.tac_syntax.specs.Grammar.{IsNumber}
use Rattle.text_lines.specs.Slots.{equals_then, number}
use Rattle.text_lines.proofs.ListSlots.{ListRead}
use Rattle.program_text.specs.DeclarationFaults.{numbers_fault}
use Rattle.program_text.specs.DeclarationWords.{number_word}
use Rattle.program_text.proofs.declaration_reading.read_left_keys.Given as goal

abbrev pub invariant-loop-words : goal.invariant-loop-words
invariant-loop-words l = ListRead (number 0 255) (equals_then (numbers_fault key_limit)) number_word IsNumber key_limit l.fn.words l.keys l.words

abbrev pub decreases-loop-words : goal.decreases-loop-words
decreases-loop-words l = length l.words
