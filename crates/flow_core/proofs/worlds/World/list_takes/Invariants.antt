use Rattle.std.proofs.Common.{◌≡◌, ◌++◌}
use Rattle.flow_instance.specs.declared.notes.Event.TheVariants.{Take}
use Rattle.flow_core.specs.Picks.{if_enabled, joined_below}
use Rattle.flow_core.specs.Worlds.{seen}
use Rattle.flow_core.proofs.worlds.World.list_takes.Given as goal

abbrev pub invariant-loop-from : goal.invariant-loop-from
invariant-loop-from g l =
    l.events.items ≡ l.fn.events.items ++ joined_below l.from (λ from. if_enabled l.self.physical l.self.depth (seen l.self) (Take (record { edge = l.edge; from = from; to = l.worker })))
