use Rattle.plan_trees.specs.Preorders.{count_of}
use Rattle.flow_core.proofs.plan_tables.+reader_of.Given as goal

abbrev pub decreases-reader_of : goal.decreases-reader_of
decreases-reader_of l = count_of l.plan.now
