use Rattle.std.proofs.Common.{◌≡◌, ◌<◌, ℕ, None, get_or, length}
use Rattle.plan_trees.specs.Plans.{node_limit}
use Rattle.flow_core.specs.PlanTables.{input_in}
use Rattle.flow_core.proofs.plan_tables.inputs_of.Given as goal

abbrev pub invariant-loop-at : goal.invariant-loop-at
invariant-loop-at l = (length l.inputs ≡ node_limit) × ((k : ℕ) → k < l.at → get_or l.inputs k None ≡ input_in l.plan k l.port)
