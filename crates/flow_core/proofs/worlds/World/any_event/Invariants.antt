use Rattle.std.proofs.Common.{◌<◌, ℕ}
use Rattle.flow_core.specs.Idle.{IsIdle}
use Rattle.flow_core.specs.Worlds.{seen}
use Rattle.flow_core.proofs.worlds.World.any_event.Given as goal

abbrev pub invariant-loop-at : goal.invariant-loop-at
invariant-loop-at g l = (at worker : ℕ) → at < l.at → worker < l.self.physical.workers → IsIdle l.self.physical l.self.depth (seen l.self) at worker
