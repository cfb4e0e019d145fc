use Rattle.std.proofs.Common.{◌≡◌, ◌++◌, ℕ, List, length}
use Rattle.text_lines.specs.LineGrammar.{IsGap}
use Rattle.text_marks.proofs.words.gap_length.Given as goal

abbrev pub invariant-loop-byte : goal.invariant-loop-byte
invariant-loop-byte l = (front : List ℕ) × (l.bytes ≡ front ++ l.rest) × IsGap front

abbrev pub decreases-loop-byte : goal.decreases-loop-byte
decreases-loop-byte l = length l.rest
