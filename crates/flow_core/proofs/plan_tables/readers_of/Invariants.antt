use Rattle.std.proofs.Common.{◌≡◌, ◌<◌, ℕ, None, get_or, length}
use Rattle.plan_trees.specs.Plans.{node_limit}
use Rattle.flow_instance.specs.Worlds.{reader_of}
use Rattle.flow_core.proofs.plan_tables.readers_of.Given as goal

abbrev pub invariant-loop-edge : goal.invariant-loop-edge
invariant-loop-edge l = (length l.readers ≡ node_limit) × ((k : ℕ) → k < l.edge → get_or l.readers k None ≡ reader_of k l.plan)
