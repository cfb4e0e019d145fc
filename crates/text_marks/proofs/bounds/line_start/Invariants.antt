use Rattle.text_marks.specs.TextParts.{IsLineStart}
use Rattle.text_marks.proofs.bounds.line_start.Given as goal

abbrev pub invariant-loop : goal.invariant-loop
invariant-loop l = IsLineStart l.text l.counter l.at
