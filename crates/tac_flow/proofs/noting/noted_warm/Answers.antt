use Rattle.tac_flow.proofs.WarmBodies.{none_kept}
use Rattle.tac_flow.proofs.noting.noted_warm.Goals as goal

pub noted_by-requires-clause-none : goal.noted_by-requires-clause-none
noted_by-requires-clause-none c = none_kept 40
