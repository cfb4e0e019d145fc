use Rattle.std.proofs.Common.{◌≡◌, false, take}
use Rattle.text_lines.proofs.TextLines.{has_feed}
use Rattle.text_lines.proofs.lines.first_line.Given as goal

abbrev pub invariant-loop-at : goal.invariant-loop-at
invariant-loop-at l = has_feed (take l.at l.text) ≡ false
