use Rattle.std.proofs.Common.{◌≡◌, ◌≤◌, drop, length, vec_len}
use Rattle.std.specs.Vec.{vec_capacity}
use Rattle.pact_operators.specs.PlanOps.{source_place}
use Rattle.flow_core.specs.Starting.{AreAllUnstarted}
use Rattle.flow_core.proofs.starting.all_unstarted.Given as goal

abbrev pub invariant-loop-at : goal.invariant-loop-at
invariant-loop-at l = (l.left ≡ drop (source_place l.program.ops l.at) l.fn.inputs) × (vec_len l.all ≡ l.at) × (length l.ops ≤ vec_capacity l.all) × AreAllUnstarted l.program l.physical l.fn.inputs l.batch l.at l.all.items
