use Rattle.tac_flow.proofs.SharedSets.{shared_is, shared-sets, shared-fields}
use Rattle.tac_flow.proofs.sharing.shared_context.Goals as goal

pub returns-in-CoGroup-clause-fields : goal.returns-in-CoGroup-clause-fields
returns-in-CoGroup-clause-fields c =
    let f = c.args.f.now in
    let x = c.args.context.now in
    let d = c.shared_by_body.result in
    shared-fields f x d c.requires (shared_is f c.function-function.result.now x d c.function-function.ensures.function c.in-CoGroup.is c.shared_by_body.ensures)

pub returns-in-CoGroup-clause-sets : goal.returns-in-CoGroup-clause-sets
returns-in-CoGroup-clause-sets c =
    let f = c.args.f.now in
    let x = c.args.context.now in
    let d = c.shared_by_body.result in
    shared-sets f x d c.function-function.ensures.valid (shared_is f c.function-function.result.now x d c.function-function.ensures.function c.in-CoGroup.is c.shared_by_body.ensures)
