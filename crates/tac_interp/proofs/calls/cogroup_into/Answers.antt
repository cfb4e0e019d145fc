use Rattle.tac_syntax.specs.Call.{of_groups}
use Rattle.tac_syntax.proofs.StepsAsRecursion.{end_state-items}
use Rattle.tac_interp.proofs.calls.cogroup_into.Goals as goal

pub returns-clause-ends : goal.returns-clause-ends
returns-clause-ends c key = end_state-items c.args.f.now.fields c.args.f.now.function.body (of_groups key c.args.left.now c.args.right.now)
