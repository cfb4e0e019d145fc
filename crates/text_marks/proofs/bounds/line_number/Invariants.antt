use Rattle.std.proofs.Common.{◌≡◌, ◌+◌, take}
use Rattle.text_marks.specs.TextParts.{line_feeds}
use Rattle.text_marks.proofs.bounds.line_number.Given as goal

abbrev pub invariant-loop-byte : goal.invariant-loop-byte
invariant-loop-byte l = l.number ≡ line_feeds (take l.byte-index (take l.at l.text)) + 1
