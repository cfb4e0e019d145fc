use Rattle.std.proofs.Common.{◌≡◌, ◌++◌, drop}
use Rattle.plan_printer.specs.CountsText.{counts_from}
use Rattle.plan_printer.proofs.counts.counts_text.Given as goal

abbrev pub invariant-loop-n : goal.invariant-loop-n
invariant-loop-n l = l.text ++ counts_from l.plan l.counts l.n (drop l.n l.op-items) ≡ counts_from l.plan l.counts 0 l.op-items
