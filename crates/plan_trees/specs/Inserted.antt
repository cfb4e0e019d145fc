-- A plan with a further operator of one input on one of its edges.
use Rattle.std.specs.Prelude.{◌==◌, ℕ, if◌then◌else◌, get_or, set}
use Rattle.plan_trees.specs.declared.physicals.Ship.TheVariants.{Forward}
use Rattle.plan_trees.specs.Physicals.{PhysicalData}
use Rattle.plan_trees.specs.Plans.{PlanTree, leaf, over, both}

abbrev pub wrapped : (below new n : ℕ) → PlanTree → PlanTree
wrapped below new n t = if below == n then over new t else t

-- the tree with a new number on the edge from a number to its consumer
abbrev pub inserted : (below new : ℕ) → PlanTree → PlanTree
inserted below new (leaf n) = wrapped below new n (leaf n)
inserted below new (over n t) = wrapped below new n (over n (inserted below new t))
inserted below new (both n t u) = wrapped below new n (both n (inserted below new t) (inserted below new u))

-- The edge to the new number has Forward, and the edge from it has the ship that the edge had.
abbrev pub inserted_above : (below new : ℕ) → PhysicalData → PhysicalData
inserted_above below new q = record {
  tree = inserted below new q.tree;
  workers = q.workers;
  ships = set (set q.ships new (get_or q.ships below Forward)) below Forward;
}
