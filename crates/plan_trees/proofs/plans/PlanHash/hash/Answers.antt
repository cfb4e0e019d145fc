use Rattle.std.proofs.Common.{List, fold, ap, ◌∙◌}
use Rattle.std.specs.Hash.{slice}
use Rattle.plan_trees.specs.declared.preorders.Node.{Node}
use Rattle.plan_trees.specs.PlanEquality.{node_writes}
use Rattle.plan_trees.proofs.ShownPlans.{told}
use Rattle.plan_trees.proofs.plans.PlanHash.hash.Goals as goal

pub returns : goal.returns
returns g c =
    let shown = told c.self.inside.nodes c.args.self.now c.self.invariant c.self.view_is in
    c.hash.ensures ∙ ap (λ (xs : List Node). fold g.H.Hasher.write c.args.state.now (slice node_writes xs)) (c.nodes.ensures ∙ shown.nodes)
