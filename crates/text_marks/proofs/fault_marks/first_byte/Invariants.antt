use Rattle.text_marks.specs.Marks.{HasOther}
use Rattle.text_marks.specs.TextParts.{cut_text}
use Rattle.text_marks.proofs.fault_marks.first_byte.Given as goal

abbrev pub invariant-loop-at : goal.invariant-loop-at
invariant-loop-at l = HasOther (cut_text l.at l.text) l.fault
