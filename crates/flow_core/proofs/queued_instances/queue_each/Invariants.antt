use Rattle.std.proofs.Common.{◌≡◌, ◌≤◌, length, vec_len}
use Rattle.std.specs.Vec.{vec_capacity}
use Rattle.flow_core.specs.Left.{AreEmptied}
use Rattle.flow_core.proofs.queued_instances.queue_each.Given as goal

abbrev pub invariant-loop-instance : goal.invariant-loop-instance
invariant-loop-instance g l = (vec_len l.held ≡ length l.yielded) × (length l.fn.own ≤ vec_capacity l.held) × AreEmptied l.workers (length l.yielded) l.fn.own l.held.items
