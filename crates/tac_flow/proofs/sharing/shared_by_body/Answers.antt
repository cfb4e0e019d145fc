use Rattle.std.proofs.Common.{sym, ◌∙◌}
use Rattle.tac_flow.proofs.SharedSets.{shared_by-empty}
use Rattle.tac_flow.proofs.sharing.shared_by_body.Goals as goal

pub returns : goal.returns
returns c = shared_by-empty _ c.args.context.now c.empty.result c.empty-2.result (sym c.takes_numbers.ensures ∙ c.if-takes_numbers.false) c.empty.ensures c.empty-2.ensures
