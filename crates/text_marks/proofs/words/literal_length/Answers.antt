use Rattle.std.proofs.Common.{rules, sym, ◌∙◌}
use Rattle.text_marks.proofs.LineScans.{open_next}
use Rattle.text_marks.proofs.words.literal_length.Goals as goal

pub loop-byte-preserved : goal.loop-byte-preserved
loop-byte-preserved c =
    open_next c.args.bytes.now c.loop-byte.invariant.0 c.loop-byte.rest.now c.in-Some.behind.now c.in-Some.byte.now c.loop-byte.is_escaped c.escapes_next-is_escaped.result c.loop-byte.invariant.1 c.loop-byte.invariant.2 c.loop-byte.invariant.3
    (search rules) (sym c.closes.ensures ∙ c.if-closes.false) c.escapes_next-is_escaped.ensures
