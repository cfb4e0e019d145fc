use Rattle.std.proofs.Common.{◌≡◌, ◌++◌, map, take}
use Rattle.text_lines.specs.CanonicalLines.{word_text}
use Rattle.program_text.specs.DeclarationWords.{column_word}
use Rattle.program_text.proofs.program_writing.and_columns.Given as goal

abbrev pub invariant-loop-column : goal.invariant-loop-column
invariant-loop-column l = l.words ≡ l.fn.words ++ map word_text (map column_word (take l.column-index l.columns))
