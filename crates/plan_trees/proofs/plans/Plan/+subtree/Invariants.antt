use Rattle.plan_trees.specs.Preorders.{count_of}
use Rattle.plan_trees.proofs.plans.Plan.+subtree.Given as goal

abbrev pub decreases-subtree : goal.decreases-subtree
decreases-subtree l = count_of l.self.now
