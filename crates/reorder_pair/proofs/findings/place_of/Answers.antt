use Rattle.reorder_pair.proofs.ComposedFindings.{shared-found}
use Rattle.reorder_pair.proofs.findings.place_of.Goals as goal

pub returns-clause-found : goal.returns-clause-found
returns-clause-found c =
    shared-found c.args.program.now c.args.at c.function_at.result.now c.args.context.now c.shared_context.result c.function_at.ensures.function c.shared_context.ensures.sets
