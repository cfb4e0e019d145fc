use Rattle.std.proofs.Common.{◌≡◌, ◌++◌, drop}
use Rattle.plan_printer.specs.CountsText.{partials_text}
use Rattle.plan_printer.proofs.counts.push_partials.Given as goal

abbrev pub invariant-loop-pair : goal.invariant-loop-pair
invariant-loop-pair l = l.text ++ partials_text l.program l.counts (drop l.pair-index l.pairs) ≡ l.fn.text ++ partials_text l.program l.counts l.pairs
