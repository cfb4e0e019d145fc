use Rattle.std.proofs.Common.{arith}
use Rattle.tac_syntax.proofs.FieldLimits.{wide_limit}
use Rattle.tac_syntax.proofs.drafts.Draft.fields.Goals as goal

pub returns-clause-few : goal.returns-clause-few
returns-clause-few c = omega (arith, c.self.invariant.few_fields, wide_limit c.self.inside.version)
