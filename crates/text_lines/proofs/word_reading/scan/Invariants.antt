use Rattle.std.proofs.Common.{length}
use Rattle.text_lines.specs.LineReading.{Chain, NextWord}
use Rattle.text_lines.proofs.word_reading.scan.Given as goal

abbrev pub invariant-loop-next : goal.invariant-loop-next
invariant-loop-next l = Chain NextWord l.line l.words l.rest

abbrev pub decreases-loop-next : goal.decreases-loop-next
decreases-loop-next l = length l.rest
