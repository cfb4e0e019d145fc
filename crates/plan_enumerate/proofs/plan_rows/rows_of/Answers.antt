use Rattle.std.proofs.Common.{arith}
use Rattle.plan_trees.proofs.FewNodes.{few_nodes}
use Rattle.plan_enumerate.proofs.plan_rows.rows_of.Goals as goal

pub add_tree-requires : goal.add_tree-requires
add_tree-requires c = let few = few_nodes c.args.plan.now c.root-root.ensures.plan in let none = c.none-rows.ensures in omega (arith, few, none)

pub returns-clause-few : goal.returns-clause-few
returns-clause-few c =
    let few = few_nodes c.args.plan.now c.root-root.ensures.plan in
    let none = c.none-rows.ensures in
    let all = c.add_tree.ensures.count in
    omega (arith, few, none, all)
