use Rattle.std.proofs.Common.{arith}
use Rattle.tac_syntax.proofs.FieldLimits.{wide_limit}
use Rattle.pact_operators.proofs.programs.Program.sink.Goals as goal

pub returns-clause-few : goal.returns-clause-few
returns-clause-few c = omega (arith, c.self.invariant.sink.few, wide_limit c.self.inside.version)
