use Rattle.tac_flow.specs.Memos.{memos_of}
use Rattle.tac_flow.specs.Views.{held_of, scope_of, sides_of, state_of}
use Rattle.tac_flow.proofs.FoundSets.{start_same}
use Rattle.tac_flow.proofs.WarmBodies.{ready_first}
use Rattle.tac_flow.proofs.noting.noted_by.Goals as goal

pub warm_body-requires-clause-ready : goal.warm_body-requires-clause-ready
warm_body-requires-clause-ready c =
    ready_first (scope_of c.args.scope.now) c.args.scope.now.least c.requires.small c.args.body.now (sides_of c.none-sides.result) (memos_of c.args.memos.now) (state_of c.start-facts.result)
    (start_same (state_of c.start-facts.result) (scope_of c.args.scope.now) (held_of c.fresh.result) c.start-facts.ensures.values c.start-facts.ensures.records c.fresh.ensures) c.requires.none
