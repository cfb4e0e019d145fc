use Rattle.plan_trees.specs.Preorders.{count_of}
use Rattle.plan_trees.proofs.plans.Plan.+with_subtree.Given as goal

abbrev pub decreases-with_subtree : goal.decreases-with_subtree
decreases-with_subtree l = count_of l.self.now
