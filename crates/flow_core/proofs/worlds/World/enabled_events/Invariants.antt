use Rattle.std.proofs.Common.{◌≡◌}
use Rattle.flow_core.specs.Picks.{events_of, joined_below}
use Rattle.flow_core.specs.Worlds.{seen}
use Rattle.flow_core.proofs.worlds.World.enabled_events.Given as goal

abbrev pub invariant-loop-at : goal.invariant-loop-at
invariant-loop-at g l =
    l.events.items ≡ joined_below l.at (λ at. joined_below l.self.physical.workers (λ worker. events_of l.self.physical l.self.depth (seen l.self) at worker))
