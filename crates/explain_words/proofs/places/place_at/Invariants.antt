use Rattle.std.proofs.Common.{◌≡◌, ◌≤◌, ◌+◌, length, take}
use Rattle.explain_words.specs.Places.{column_after, line_after}
use Rattle.explain_words.proofs.places.place_at.Given as goal

abbrev pub invariant-loop-byte : goal.invariant-loop-byte
invariant-loop-byte l =
    (line_after 1 (take l.at l.text) ≡ line_after l.line l.rest) × (l.line + length l.rest ≤ 1 + length l.text) × (column_after 1 (take l.at l.text) ≡ column_after l.column l.rest) × (l.column + length l.rest ≤ 1 + length l.text)

abbrev pub decreases-loop-byte : goal.decreases-loop-byte
decreases-loop-byte l = length l.rest
