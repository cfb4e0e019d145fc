use Rattle.plan_trees.specs.Preorders.{count_of}
use Rattle.pact_operators.proofs.attributes.+attributes_of.Given as goal

abbrev pub decreases-attributes_of : goal.decreases-attributes_of
decreases-attributes_of l = count_of l.plan.now
