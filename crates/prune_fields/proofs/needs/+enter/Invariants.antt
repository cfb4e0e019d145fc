use Rattle.plan_trees.specs.Preorders.{count_of}
use Rattle.prune_fields.proofs.needs.+enter.Given as goal

abbrev pub decreases-enter : goal.decreases-enter
decreases-enter l = count_of l.tree.now
