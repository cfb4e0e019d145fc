use Rattle.plan_trees.specs.Preorders.{count_of}
use Rattle.plan_trees.proofs.plans.Plan.+has.Given as goal

abbrev pub decreases-has : goal.decreases-has
decreases-has l = count_of l.self.now
