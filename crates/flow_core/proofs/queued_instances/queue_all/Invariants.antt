use Rattle.std.proofs.Common.{◌≡◌, ◌≤◌, length, vec_len}
use Rattle.std.specs.Vec.{vec_capacity}
use Rattle.flow_core.specs.Left.{AreAllEmptied}
use Rattle.flow_core.proofs.queued_instances.queue_all.Given as goal

abbrev pub invariant-loop-own : goal.invariant-loop-own
invariant-loop-own g l = (vec_len l.all ≡ length l.yielded) × (length l.fn.instances ≤ vec_capacity l.all) × AreAllEmptied l.workers (length l.yielded) l.fn.instances l.all.items
