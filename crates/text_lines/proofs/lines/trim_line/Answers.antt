use Rattle.std.proofs.Common.{sym}
use Rattle.std.proofs.lemmas.Bool.{ne_eqb}
use Rattle.text_lines.proofs.TextLines.{trimmed-return, trimmed-other}
use Rattle.text_lines.proofs.lines.trim_line.Goals as goal

pub returns-then-last-eq13 : goal.returns-then-last-eq13
returns-then-last-eq13 c = rw (c.in-Some.ensures.cases.0, c.if-last-eq13.true) (sym (trimmed-return c.in-Some.front.now))

pub returns-else-last-eq13 : goal.returns-else-last-eq13
returns-else-last-eq13 c = rw c.in-Some.ensures.cases.0 (sym (trimmed-other c.in-Some.front.now c.in-Some.last.now (ne_eqb _ 13 c.if-last-eq13.false)))
