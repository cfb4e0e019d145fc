use Rattle.std.proofs.Common.{◌≡◌, ◌≤◌, length, vec_len}
use Rattle.std.specs.Vec.{vec_capacity}
use Rattle.flow_core.specs.Starting.{AreUnstarted}
use Rattle.flow_core.proofs.starting.unstarted_of.Given as goal

abbrev pub invariant-loop-share : goal.invariant-loop-share
invariant-loop-share l =
    (l.worker ≡ length l.yielded) × (vec_len l.held ≡ l.worker) × (l.workers ≤ vec_capacity l.held) × AreUnstarted l.program l.physical l.batch l.at l.fn.rows l.worker l.held.items
