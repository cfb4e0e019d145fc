use Rattle.plan_trees.specs.Preorders.{count_of}
use Rattle.program_hints.proofs.dropped.+kept_of.Given as goal

abbrev pub decreases-kept_of : goal.decreases-kept_of
decreases-kept_of l = count_of l.plan.now
