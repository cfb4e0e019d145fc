use Rattle.std.proofs.Common.{length}
use Rattle.text_lines.specs.LineReading.{Chain, IsByte}
use Rattle.text_lines.proofs.word_reading.word_bytes.Given as goal

abbrev pub invariant-loop-byte : goal.invariant-loop-byte
invariant-loop-byte l = Chain (IsByte l.is_literal) l.line l.bytes l.rest

abbrev pub decreases-loop-byte : goal.decreases-loop-byte
decreases-loop-byte l = length l.rest
