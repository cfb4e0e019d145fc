use Rattle.plan_trees.specs.Preorders.{count_of}
use Rattle.program_hints.proofs.sizes.+count_of.Given as goal

abbrev pub decreases-count_of : goal.decreases-count_of
decreases-count_of l = count_of l.plan.now
