use Rattle.tac_syntax.specs.Call.{of_pair}
use Rattle.tac_syntax.proofs.StepsAsRecursion.{end_state-items}
use Rattle.tac_interp.proofs.calls.pair_into.Goals as goal

pub returns-clause-ends : goal.returns-clause-ends
returns-clause-ends c = end_state-items c.args.f.now.fields c.args.f.now.function.body (of_pair c.args.left.now c.args.right.now)
