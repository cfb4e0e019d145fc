use Rattle.program_hints.specs.Hints.{AreRight}
use Rattle.program_hints.proofs.hints.program_hints.Given as goal

abbrev pub invariant-loop-hint : goal.invariant-loop-hint
invariant-loop-hint l = AreRight l.program l.list
