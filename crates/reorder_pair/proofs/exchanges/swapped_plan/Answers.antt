use Rattle.plan_trees.proofs.ExchangedTrees.{replaced-IsPlan}
use Rattle.reorder_pair.specs.Rules.{exchange_of}
use Rattle.reorder_pair.proofs.exchanges.swapped_plan.Goals as goal

pub with_subtree-requires-clause-plan : goal.with_subtree-requires-clause-plan
with_subtree-requires-clause-plan c =
    let a = c.args in
    replaced-IsPlan (exchange_of a.rule).shape a.at a.plan.now c.exchanged_tree.result c.requires.node c.exchanged_tree.ensures c.root-root.ensures.plan
