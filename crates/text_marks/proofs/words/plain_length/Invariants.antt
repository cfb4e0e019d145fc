use Rattle.std.proofs.Common.{◌≡◌, ◌++◌, ℕ, List, length, false}
use Rattle.std.specs.List.{AllByRecursion}
use Rattle.text_lines.specs.LineGrammar.{ends_word}
use Rattle.text_marks.proofs.words.plain_length.Given as goal

abbrev pub invariant-loop-byte : goal.invariant-loop-byte
invariant-loop-byte l = (front : List ℕ) × (l.bytes ≡ front ++ l.rest) × AllByRecursion (λ b. ends_word b ≡ false) front

abbrev pub decreases-loop-byte : goal.decreases-loop-byte
decreases-loop-byte l = length l.rest
