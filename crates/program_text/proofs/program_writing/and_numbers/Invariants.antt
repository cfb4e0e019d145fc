use Rattle.std.proofs.Common.{◌≡◌, ◌++◌, map, take}
use Rattle.text_lines.specs.CanonicalLines.{word_text}
use Rattle.program_text.specs.DeclarationWords.{number_words}
use Rattle.program_text.proofs.program_writing.and_numbers.Given as goal

abbrev pub invariant-loop-number : goal.invariant-loop-number
invariant-loop-number l = l.words ≡ l.fn.words ++ map word_text (number_words (take l.number-index l.numbers))
