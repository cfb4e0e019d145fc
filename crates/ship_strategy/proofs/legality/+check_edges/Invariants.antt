use Rattle.plan_trees.specs.Preorders.{count_of}
use Rattle.ship_strategy.proofs.legality.+check_edges.Given as goal

abbrev pub decreases-check_edges : goal.decreases-check_edges
decreases-check_edges l = count_of l.tree.now
