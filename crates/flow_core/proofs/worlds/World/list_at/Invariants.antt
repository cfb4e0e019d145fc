use Rattle.std.proofs.Common.{◌≡◌, ◌++◌}
use Rattle.flow_core.specs.Picks.{events_of, joined_below}
use Rattle.flow_core.specs.Worlds.{seen}
use Rattle.flow_core.proofs.worlds.World.list_at.Given as goal

abbrev pub invariant-loop-worker : goal.invariant-loop-worker
invariant-loop-worker g l =
    l.events.items ≡ l.fn.events.items ++ joined_below l.worker (λ worker. events_of l.self.physical l.self.depth (seen l.self) l.at worker)
