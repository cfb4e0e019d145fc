use Rattle.std.proofs.Common.{rules}
use Rattle.text_marks.proofs.LineScans.{gap_next}
use Rattle.text_marks.proofs.words.gap_length.Goals as goal

pub loop-byte-preserved : goal.loop-byte-preserved
loop-byte-preserved c = gap_next c.args.bytes.now c.loop-byte.invariant.0 c.loop-byte.rest.now c.in-Some.behind.now c.in-Some.byte.now c.loop-byte.invariant.1 c.loop-byte.invariant.2 (search rules) (search rules)
