use Rattle.std.proofs.Common.{ap, length, length-append, arith}
use Rattle.plan_trees.specs.Plans.{both}
use Rattle.plan_trees.proofs.FewNodes.{few_nodes}
use Rattle.plan_trees.proofs.ShownPlans.{told, both_shown, shows_plan, tree_is}
use Rattle.plan_trees.proofs.plans.Plan.pair.Goals as goal

pub append-requires : goal.append-requires
append-requires c =
    let left = told c.left.inside.nodes c.args.left.now c.left.invariant c.left.view_is in
    let few = few_nodes (both c.args.at c.args.left.now c.args.right.now) c.requires in
    omega (arith, ap length c.of-nodes.ensures)

pub append-requires-2 : goal.append-requires-2
append-requires-2 c =
    let left = told c.left.inside.nodes c.args.left.now c.left.invariant c.left.view_is in
    let right = told c.right.inside.nodes c.args.right.now c.right.invariant c.right.view_is in
    let few = few_nodes (both c.args.at c.args.left.now c.args.right.now) c.requires in
    omega (arith, ap length c.of-nodes.ensures, ap length c.append.ensures, length-append c.of-nodes.result c.left.inside.nodes)

pub invariant_of-result : goal.invariant_of-result
invariant_of-result c =
    let left = told c.left.inside.nodes c.args.left.now c.left.invariant c.left.view_is in
    let right = told c.right.inside.nodes c.args.right.now c.right.invariant c.right.view_is in
    shows_plan c.append-2.new.self (both c.args.at c.args.left.now c.args.right.now)
    (both_shown _ _ _ _ _ c.args.left.now c.args.right.now c.args.at c.len.result c.len-2.result left right c.len.ensures.len c.len-2.ensures.len c.of-nodes.ensures c.append.ensures c.append-2.ensures c.requires)

pub returns : goal.returns
returns c =
    let left = told c.left.inside.nodes c.args.left.now c.left.invariant c.left.view_is in
    let right = told c.right.inside.nodes c.args.right.now c.right.invariant c.right.view_is in
    tree_is c.append-2.new.self (both c.args.at c.args.left.now c.args.right.now)
    (both_shown _ _ _ _ _ c.args.left.now c.args.right.now c.args.at c.len.result c.len-2.result left right c.len.ensures.len c.len-2.ensures.len c.of-nodes.ensures c.append.ensures c.append-2.ensures c.requires)
