use Rattle.std.proofs.Common.{◌≡◌}
use Rattle.pact_gen.specs.Generated.{generated}
use Rattle.pact_gen.proofs.RowsSoFar.{behind_rows}
use Rattle.pact_gen.proofs.generating.make_input.Given as goal

abbrev pub invariant-loop : goal.invariant-loop
invariant-loop l = (l.made ≡ generated l.seed l.counter) × (l.x ≡ behind_rows l.seed l.counter)
