use Rattle.std.proofs.Common.{ap, length, arith}
use Rattle.plan_trees.specs.Plans.{over}
use Rattle.plan_trees.proofs.BelowRoot.{over_plan}
use Rattle.plan_trees.proofs.FewNodes.{few_nodes}
use Rattle.plan_trees.proofs.ShownPlans.{told, over_shown, shows_plan, tree_is}
use Rattle.plan_trees.proofs.plans.Plan.over.Goals as goal

pub append-requires : goal.append-requires
append-requires c =
    let t = c.args.input.now in
    let input = told c.input.inside.nodes t c.input.invariant c.input.view_is in
    let few = few_nodes (over c.args.at t) (over_plan c.args.at t c.requires.below c.requires.absent input.plan) in
    omega (arith, ap length c.of-nodes.ensures)

pub invariant_of-result : goal.invariant_of-result
invariant_of-result c =
    let t = c.args.input.now in
    let input = told c.input.inside.nodes t c.input.invariant c.input.view_is in
    shows_plan c.append.new.self (over c.args.at t) (over_shown _ _ _ t c.args.at c.len-count.result input c.len-count.ensures.len c.of-nodes.ensures c.append.ensures
    (over_plan c.args.at t c.requires.below c.requires.absent input.plan))

pub returns : goal.returns
returns c =
    let t = c.args.input.now in
    let input = told c.input.inside.nodes t c.input.invariant c.input.view_is in
    tree_is c.append.new.self (over c.args.at t) (over_shown _ _ _ t c.args.at c.len-count.result input c.len-count.ensures.len c.of-nodes.ensures c.append.ensures
    (over_plan c.args.at t c.requires.below c.requires.absent input.plan))
