use Rattle.std.proofs.Common.{◌≡◌, ◌++◌, ℕ, List, length, true, false}
use Rattle.text_marks.specs.LineParts.{escapes, is_open}
use Rattle.text_marks.proofs.words.literal_length.Given as goal

abbrev pub invariant-loop-byte : goal.invariant-loop-byte
invariant-loop-byte l = (front : List ℕ) × (l.bytes ≡ front ++ l.rest) × (is_open false front ≡ true) × (escapes false front ≡ l.is_escaped)

abbrev pub decreases-loop-byte : goal.decreases-loop-byte
decreases-loop-byte l = length l.rest
