use Rattle.plan_trees.specs.Preorders.{count_of}
use Rattle.ship_strategy.proofs.laying.+lay.Given as goal

abbrev pub decreases-lay : goal.decreases-lay
decreases-lay l = count_of l.tree.now
