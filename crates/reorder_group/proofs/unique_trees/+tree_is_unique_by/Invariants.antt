use Rattle.plan_trees.specs.Preorders.{count_of}
use Rattle.reorder_group.proofs.unique_trees.+tree_is_unique_by.Given as goal

abbrev pub decreases-tree_is_unique_by : goal.decreases-tree_is_unique_by
decreases-tree_is_unique_by l = count_of l.tree.now
