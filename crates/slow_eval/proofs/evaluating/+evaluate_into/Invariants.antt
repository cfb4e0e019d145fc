use Rattle.plan_trees.specs.Preorders.{count_of}
use Rattle.slow_eval.proofs.evaluating.+evaluate_into.Given as goal

abbrev pub decreases-evaluate_into : goal.decreases-evaluate_into
decreases-evaluate_into l = count_of l.plan.now
