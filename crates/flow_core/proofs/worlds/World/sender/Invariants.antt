use Rattle.std.proofs.Common.{◌≡◌, ◌<◌, ℕ, length}
use Rattle.flow_core.specs.Worlds.{queue_in}
use Rattle.flow_core.proofs.worlds.World.sender.Given as goal

abbrev pub invariant-loop-from : goal.invariant-loop-from
invariant-loop-from g l = (from : ℕ) → from < l.from → length (queue_in l.self.queued_instances l.edge from l.to) ≡ 0
