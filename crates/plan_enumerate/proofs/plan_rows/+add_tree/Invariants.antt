use Rattle.plan_trees.specs.Preorders.{count_of}
use Rattle.plan_enumerate.proofs.plan_rows.+add_tree.Given as goal

abbrev pub decreases-add_tree : goal.decreases-add_tree
decreases-add_tree l = count_of l.tree.now
