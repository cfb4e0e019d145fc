use Rattle.plan_trees.specs.Preorders.{count_of}
use Rattle.plan_printer.proofs.plans.+push_tree.Given as goal

abbrev pub decreases-push_tree : goal.decreases-push_tree
decreases-push_tree l = count_of l.tree.now
