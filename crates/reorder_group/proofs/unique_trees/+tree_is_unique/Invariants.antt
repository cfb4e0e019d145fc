use Rattle.plan_trees.specs.Preorders.{count_of}
use Rattle.reorder_group.proofs.unique_trees.+tree_is_unique.Given as goal

abbrev pub decreases-tree_is_unique : goal.decreases-tree_is_unique
decreases-tree_is_unique l = count_of l.tree.now
