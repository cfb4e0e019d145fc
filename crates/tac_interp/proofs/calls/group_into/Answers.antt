use Rattle.tac_syntax.specs.Call.{of_group}
use Rattle.tac_syntax.proofs.StepsAsRecursion.{end_state-items}
use Rattle.tac_interp.proofs.calls.group_into.Goals as goal

pub returns-clause-ends : goal.returns-clause-ends
returns-clause-ends c key = end_state-items c.args.f.now.fields c.args.f.now.function.body (of_group key c.args.group.now)
