use Rattle.pact_load.proofs.SourcesByName.{AreOthers}
use Rattle.pact_load.proofs.named_sources.number_of.Given as goal

abbrev pub invariant-loop-at : goal.invariant-loop-at
invariant-loop-at l = AreOthers l.ops l.name l.at
