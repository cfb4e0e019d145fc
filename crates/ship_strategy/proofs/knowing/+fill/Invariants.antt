use Rattle.plan_trees.specs.Preorders.{count_of}
use Rattle.ship_strategy.proofs.knowing.+fill.Given as goal

abbrev pub decreases-fill : goal.decreases-fill
decreases-fill l = count_of l.tree.now
