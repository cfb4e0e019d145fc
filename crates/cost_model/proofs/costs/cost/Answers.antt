use Rattle.std.proofs.Common.{ap, ◌∙◌}
use Rattle.plan_trees.specs.Plans.{PlanTree}
use Rattle.cost_model.specs.Costs.{spent}
use Rattle.cost_model.proofs.WholeSums.{spent_whole}
use Rattle.cost_model.proofs.costs.cost.Goals as goal

pub returns-clause-whole : goal.returns-clause-whole
returns-clause-whole c =
    let p = c.args.program.now in
    let counts = c.args.counts.now in
    let physical = c.args.physical.now in
    c.spent_in.ensures.cost ∙ ap (λ (t : PlanTree). spent p counts physical t) c.plan.ensures ∙ spent_whole p counts physical physical.tree
