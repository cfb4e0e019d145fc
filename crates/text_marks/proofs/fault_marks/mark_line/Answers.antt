use Rattle.std.proofs.Common.{rules, inr}
use Rattle.text_marks.proofs.fault_marks.mark_line.Goals as goal

pub mark_after-requires-then-branch-clause-empty : goal.mark_after-requires-then-branch-clause-empty
mark_after-requires-then-branch-clause-empty c = inr (inr (inr (inr (c.args.start, c.args.end, c.requires.line, inr (search rules)))))
