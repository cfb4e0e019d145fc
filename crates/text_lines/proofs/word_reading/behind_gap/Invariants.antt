use Rattle.std.proofs.Common.{◌≡◌, length}
use Rattle.text_lines.specs.LineReading.{behind_gap}
use Rattle.text_lines.proofs.word_reading.behind_gap.Given as goal

abbrev pub invariant-loop-behind : goal.invariant-loop-behind
invariant-loop-behind l = behind_gap l.rest ≡ behind_gap l.line

abbrev pub decreases-loop-behind : goal.decreases-loop-behind
decreases-loop-behind l = length l.rest
