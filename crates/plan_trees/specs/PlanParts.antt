-- The root of a plan and the plans of its inputs.
use Rattle.plan_trees.specs.Plans.{PlanTree, leaf, over, both}
use Rattle.plan_trees.specs.declared.plans.Parts.{Parts}
use Rattle.plan_trees.specs.declared.plans.Parts.TheVariants.{Alone, OverOne, OverTwo}

abbrev pub parts_of : PlanTree → Parts
parts_of (leaf n) = Alone n
parts_of (over n t) = OverOne n t
parts_of (both n t u) = OverTwo n t u
