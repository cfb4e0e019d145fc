use Rattle.std.proofs.Common.{◌≡◌, ◌++◌, drop}
use Rattle.pact_top.specs.CommandTexts.{keeps_text}
use Rattle.pact_top.proofs.running.push_kept.Given as goal

abbrev pub invariant-loop-one : goal.invariant-loop-one
invariant-loop-one l = l.text ++ keeps_text l.program (drop l.one-index l.kept) ≡ l.fn.text ++ keeps_text l.program l.kept
