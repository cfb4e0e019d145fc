use Rattle.std.proofs.Common.{◌≡◌, ◌++◌, length}
use Rattle.explain_report.specs.Printing.{others_text}
use Rattle.explain_report.proofs.texts.put_others.Given as goal

abbrev pub invariant-loop-item : goal.invariant-loop-item
invariant-loop-item l = l.page ++ others_text l.fields l.is_key l.rest ≡ l.fn.page ++ others_text l.fields l.is_key l.items

abbrev pub decreases-loop-item : goal.decreases-loop-item
decreases-loop-item l = length l.rest
