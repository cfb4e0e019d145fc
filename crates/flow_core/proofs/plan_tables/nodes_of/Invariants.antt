use Rattle.std.proofs.Common.{◌≡◌, ◌<◌, ℕ, false, get_or, length}
use Rattle.plan_trees.specs.Plans.{has, node_limit}
use Rattle.flow_core.proofs.plan_tables.nodes_of.Given as goal

abbrev pub invariant-loop-at : goal.invariant-loop-at
invariant-loop-at l = (length l.nodes ≡ node_limit) × ((k : ℕ) → k < l.at → get_or l.nodes k false ≡ has k l.plan)
