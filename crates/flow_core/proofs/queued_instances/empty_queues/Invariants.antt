use Rattle.std.proofs.Common.{◌≡◌, ◌≤◌, [], length, vec_len}
use Rattle.std.specs.Vec.{vec_capacity}
use Rattle.std.specs.List.{AllByRecursion}
use Rattle.flow_core.proofs.queued_instances.empty_queues.Given as goal

abbrev pub invariant-loop-receiver : goal.invariant-loop-receiver
invariant-loop-receiver l = (length l.queues.items ≡ l._receiver) × AllByRecursion (λ queue. queue ≡ []) l.queues.items × (vec_len l.queues ≡ l._receiver) × (l.workers ≤ vec_capacity l.queues)
