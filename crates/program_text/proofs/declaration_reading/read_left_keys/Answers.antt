use Rattle.std.proofs.Common.{codes, rules, sym, subst, ◌∙◌}
use Rattle.tac_syntax.specs.Functions.{key_limit}
use Rattle.tac_syntax.specs.Grammar.{IsNumber}
use Rattle.text_lines.specs.LineReading.{IsOther}
use Rattle.text_lines.specs.Slots.{equals_then, number}
use Rattle.text_lines.proofs.ListSlots.{list_goes_on}
use Rattle.program_text.specs.DeclarationFaults.{numbers_fault}
use Rattle.program_text.specs.DeclarationWords.{number_word}
use Rattle.program_text.proofs.declaration_reading.read_left_keys.Goals as goal

pub loop-words-preserved : goal.loop-words-preserved
loop-words-preserved c =
    let other = c.loop-words-test.ensures.other in
    let key = c.in_ok-key.ensures.read in
    let parts = sym other.0 ∙ key.0 in
    let more = list_goes_on (number 0 255) (equals_then (numbers_fault key_limit)) number_word IsNumber key_limit c.args.words.now c.loop-words.words c.number-in-loop-words.new.self c.loop-words.keys c.in_ok-key.key
    c.loop-words.invariant (search rules) (subst (IsOther (codes "=")) parts other.1) key.2 key.1.1 parts in
    rw c.in_ok-add_number-2.ensures more
