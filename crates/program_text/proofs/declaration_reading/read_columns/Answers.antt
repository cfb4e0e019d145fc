use Rattle.std.proofs.Common.{refl, rules}
use Rattle.tac_syntax.specs.Grammar.{IsNumber}
use Rattle.text_lines.specs.Slots.{column, line_end}
use Rattle.text_lines.proofs.ListSlots.{list_goes_on}
use Rattle.program_text.specs.DeclarationWords.{column_word}
use Rattle.program_text.proofs.declaration_reading.read_columns.Goals as goal

pub loop-words-preserved : goal.loop-words-preserved
loop-words-preserved c =
    let read = c.in_ok-column.ensures in
    let more = list_goes_on column line_end column_word (λ c'. IsNumber c'.field) c.args.limit c.args.words.now c.loop-words.words c.column-in-loop-words.new.self c.loop-words.columns c.in_ok-column.column
    c.loop-words.invariant (search rules) refl read.2 read.1 read.0 in
    rw c.in_ok-add_column-2.ensures more
