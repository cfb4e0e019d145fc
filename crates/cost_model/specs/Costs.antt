-- What a physical plan is expected to cost.
use Rattle.std.specs.Prelude.{◌+◌, ◌*◌, ℕ, List}
use Rattle.plan_trees.specs.declared.physicals.Ship.{Ship}
use Rattle.plan_trees.specs.declared.physicals.Ship.TheVariants.{Forward, Partition, Broadcast}
use Rattle.plan_trees.specs.Physicals.{PhysicalData, ship_of}
use Rattle.plan_trees.specs.Plans.{PlanTree, leaf, over, both}
use Rattle.pact_operators.specs.Programs.{ProgramData}
use Rattle.cost_model.specs.Estimates.{estimate, plus, times}

-- the cost of shipping `n` records along an edge: a record that stays costs 0, one that goes to one worker 1, and one
-- that goes to every worker 1 for each worker
abbrev pub ship_cost : ℕ → Ship → ℕ → ℕ
ship_cost workers Forward n = 0
ship_cost workers (Partition keys) n = n
ship_cost workers Broadcast n = times workers n

-- the cost of an edge: its operator takes the records, and they are shipped
abbrev pub edge_cost : ℕ → Ship → ℕ → ℕ
edge_cost workers ship n = plus n (ship_cost workers ship n)

-- the cost of the operators of a tree
abbrev pub spent : ProgramData → List ℕ → PhysicalData → PlanTree → ℕ
spent p counts physical (leaf n) = 0
spent p counts physical (over n t) = plus (edge_cost physical.workers (ship_of physical t) (estimate p counts t)) (spent p counts physical t)
spent p counts physical (both n t u) =
    plus (plus (edge_cost physical.workers (ship_of physical t) (estimate p counts t)) (edge_cost physical.workers (ship_of physical u) (estimate p counts u)))
    (plus (spent p counts physical t) (spent p counts physical u))

abbrev pub cost : ProgramData → List ℕ → PhysicalData → ℕ
cost p counts physical = spent p counts physical physical.tree

-- ---- costs without a greatest number

abbrev pub whole_ship_cost : ℕ → Ship → ℕ → ℕ
whole_ship_cost workers Forward n = 0
whole_ship_cost workers (Partition keys) n = n
whole_ship_cost workers Broadcast n = workers * n

abbrev pub whole_edge_cost : ℕ → Ship → ℕ → ℕ
whole_edge_cost workers ship n = n + whole_ship_cost workers ship n

-- the sum over all operators of the tree and over the edges into them
abbrev pub whole_cost : ProgramData → List ℕ → PhysicalData → PlanTree → ℕ
whole_cost p counts physical (leaf n) = 0
whole_cost p counts physical (over n t) = whole_edge_cost physical.workers (ship_of physical t) (estimate p counts t) + whole_cost p counts physical t
whole_cost p counts physical (both n t u) =
    (whole_edge_cost physical.workers (ship_of physical t) (estimate p counts t) + whole_edge_cost physical.workers (ship_of physical u) (estimate p counts u))
    + (whole_cost p counts physical t + whole_cost p counts physical u)
