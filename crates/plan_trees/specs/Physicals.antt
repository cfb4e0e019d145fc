-- Physical plans: a plan, how many workers run it, and how records go along each of its edges.
use Rattle.std.specs.Prelude.{◌≡◌, ◌≤◌, ◌==◌, ◌&&◌, not, ℕ, Bool, false, if◌then◌else◌, Option, Some, None, List, length, get_or, set, replicate}
use Rattle.plan_trees.specs.Plans.{PlanTree, node_limit, root_of, has, IsPlan}
use Rattle.plan_trees.specs.declared.physicals.Ship.{Ship}
use Rattle.plan_trees.specs.declared.physicals.Ship.TheVariants.{Forward}

abbrev pub worker_limit : ℕ
worker_limit = 16

-- The ship at a number's place in the list is that of the edge from the node with this number to its consumer.
pub record PhysicalData : Type 0 where
  pub tree : PlanTree
  pub workers : ℕ
  pub ships : List Ship

-- each node but the root has an edge to its consumer
abbrev pub has_edge : ℕ → PlanTree → Bool
has_edge at tree = has at tree && not (at == root_of tree)

-- how the records of a node go to its consumer
abbrev pub ship_at : PhysicalData → ℕ → Option Ship
ship_at p at = if has_edge at p.tree then Some (get_or p.ships at Forward) else None

-- how the records of a tree's root go to its consumer
abbrev pub ship_of : PhysicalData → PlanTree → Ship
ship_of p t = get_or p.ships (root_of t) Forward

-- the plan with another ship on one edge
abbrev pub with_ship : PhysicalData → ℕ → Ship → PhysicalData
with_ship p at ship = record { tree = p.tree; workers = p.workers; ships = set p.ships at ship }

-- the plan with Forward on every edge
abbrev pub forwarded : PlanTree → ℕ → PhysicalData
forwarded tree workers = record { tree = tree; workers = workers; ships = replicate node_limit Forward }

-- A plan, and at least one and at most `worker_limit` workers; a place that names no edge holds Forward.
pub record IsPhysical (p : PhysicalData) : Type 0 where
  pub plan : IsPlan p.tree
  pub some_worker : 1 ≤ p.workers
  pub few_workers : p.workers ≤ worker_limit
  pub long : length p.ships ≡ node_limit
  pub rest : (at : ℕ) → has_edge at p.tree ≡ false → get_or p.ships at Forward ≡ Forward
