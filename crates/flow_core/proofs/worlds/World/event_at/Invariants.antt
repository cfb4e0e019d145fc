use Rattle.std.proofs.Common.{◌<◌, ℕ}
use Rattle.flow_core.specs.Idle.{IsIdle}
use Rattle.flow_core.specs.Worlds.{seen}
use Rattle.flow_core.proofs.worlds.World.event_at.Given as goal

abbrev pub invariant-loop-worker : goal.invariant-loop-worker
invariant-loop-worker g l = (worker : ℕ) → worker < l.worker → IsIdle l.self.physical l.self.depth (seen l.self) l.at worker
