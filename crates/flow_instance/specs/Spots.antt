-- What a program and a physical plan say about the instances of one source or operator.
use Rattle.std.specs.Prelude.{ℕ, Bool, Option, Some, None, List, [], ◌∷◌}
use Rattle.tac_syntax.specs.declared.declarations.OpKind.{OpKind}
use Rattle.plan_trees.specs.declared.physicals.Ship.{Ship}
use Rattle.plan_trees.specs.Physicals.{PhysicalData, ship_at, ship_of}
use Rattle.plan_trees.specs.Plans.{PlanTree, leaf, over, both, root_of}
use Rattle.plan_trees.specs.Sending as sending
use Rattle.plan_trees.specs.Sending.{has_out}
use Rattle.pact_operators.specs.Allowed.{Bag}
use Rattle.pact_operators.specs.PlanOps.{PlanOps, plan_ops}
use Rattle.pact_operators.specs.Programs.{ProgramData}

-- What the sources and operators do, the number of fields of a record, and a physical plan.
pub record Setting : Type 0 where
  pub ops : PlanOps
  pub fields : ℕ
  pub physical : PhysicalData

-- the setting of a program with the rows of its sources
abbrev pub setting : ProgramData → List Bag → PhysicalData → Setting
setting p inputs physical = record { ops = plan_ops p inputs; fields = p.fields; physical = physical }

-- An edge that comes in at a port: the number of its sender, and how records are shipped.
pub record Port : Type 0 where
  pub edge : ℕ
  pub ship : Ship

-- One source or operator: its number, kind and ports, and how its records go to its consumer. The root has no consumer.
pub record Spot : Type 0 where
  pub at : ℕ
  pub kind : OpKind
  pub workers : ℕ
  pub fields : ℕ
  pub ports : List Port
  pub out : Option Ship
  pub ops : PlanOps

-- the port that reads the root of a tree
abbrev pub port_from : PhysicalData → PlanTree → Port
port_from p t = record { edge = root_of t; ship = ship_of p t }

-- the ports of a tree's root
abbrev pub ports_of : PhysicalData → PlanTree → List Port
ports_of p (leaf n) = []
ports_of p (over n t) = port_from p t ∷ []
ports_of p (both n t u) = port_from p t ∷ port_from p u ∷ []

-- the source or operator at the root of a tree
abbrev pub spot : Setting → PlanTree → Spot
spot setting t = record {
  at = root_of t;
  kind = setting.ops.kind (root_of t);
  workers = setting.physical.workers;
  fields = setting.fields;
  ports = ports_of setting.physical t;
  out = ship_at setting.physical (root_of t);
  ops = setting.ops;
}

-- ---- its pipes

-- how records come in at a port
abbrev pub ship_in : Option Port → Option Ship
ship_in None = None
ship_in (Some port) = Some port.ship

-- whether a worker's instance has a pipe from another worker at a port
abbrev pub is_edge : Option Port → (from worker : ℕ) → Bool
is_edge port from worker = has_out (ship_in port) from worker

-- the records of a worker that go to another worker
abbrev pub sent : Option Ship → (workers from to : ℕ) → Bag → Bag
sent None workers from to given = []
sent (Some ship) workers from to given = sending.sent ship workers from to given
