use Rattle.plan_trees.specs.Preorders.{count_of}
use Rattle.cost_model.proofs.estimates.+estimate_of.Given as goal

abbrev pub decreases-estimate_of : goal.decreases-estimate_of
decreases-estimate_of l = count_of l.tree.now
