use Rattle.combine_rule.specs.CombinedPrograms.{planned, IsCombinedFrom}
use Rattle.combine_rule.proofs.combining.all_combined.Given as goal

abbrev pub invariant-loop-at : goal.invariant-loop-at
invariant-loop-at l = IsCombinedFrom l.at 0 (planned l.program l.physical) (planned l.combined.program l.combined.physical) l.combined.of.items
