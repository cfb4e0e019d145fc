use Rattle.std.proofs.Common.{◌≤◌, ◌-◌}
use Rattle.text_marks.specs.LineParts.{AreNextWords}
use Rattle.text_marks.specs.TextParts.{AreWordsOf}
use Rattle.text_marks.proofs.words.words_of_line.Given as goal

abbrev pub invariant-loop-word : goal.invariant-loop-word
invariant-loop-word l = (l.at ≤ l.end) × AreWordsOf l.line l.start l.at l.words.items × AreNextWords l.text l.line l.end l.start l.words.items l.at

abbrev pub decreases-loop-word : goal.decreases-loop-word
decreases-loop-word l = l.end - l.at
