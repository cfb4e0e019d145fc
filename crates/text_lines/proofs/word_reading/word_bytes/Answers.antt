use Rattle.text_lines.specs.LineReading.{IsByte}
use Rattle.text_lines.proofs.WordReading.{Chain-last}
use Rattle.text_lines.proofs.word_reading.word_bytes.Goals as goal

pub loop-byte-preserved : goal.loop-byte-preserved
loop-byte-preserved c = rw c.in_ok-push.ensures.ok (Chain-last (IsByte c.args.is_literal) _ _ _ _ _ c.loop-byte.invariant c.in-Some.ensures.some)
