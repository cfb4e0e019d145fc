use Rattle.plan_trees.specs.Preorders.{count_of}
use Rattle.swap_certificate.proofs.names.+push_line.Given as goal

abbrev pub decreases-push_line : goal.decreases-push_line
decreases-push_line l = count_of l.plan.now
