use Rattle.plan_trees.specs.Preorders.{count_of}
use Rattle.cost_model.proofs.costs.+spent_in.Given as goal

abbrev pub decreases-spent_in : goal.decreases-spent_in
decreases-spent_in l = count_of l.tree.now
