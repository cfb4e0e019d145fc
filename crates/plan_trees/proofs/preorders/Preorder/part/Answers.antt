use Rattle.std.proofs.Common.{ap, length, arith}
use Rattle.plan_trees.proofs.preorders.Preorder.part.Goals as goal

pub append_part-requires-clause-room : goal.append_part-requires-clause-room
append_part-requires-clause-room c = omega (arith, ap length c.empty-nodes.ensures)
