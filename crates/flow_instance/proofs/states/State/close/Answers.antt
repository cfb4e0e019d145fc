use Rattle.std.proofs.Common.{refl}
use Rattle.flow_instance.proofs.WantsOfInstances.{closed}
use Rattle.flow_instance.proofs.states.State.close.Goals as goal

pub returns : goal.returns
returns g c = closed g.L.Local.rows g.L.Local.key_fields g.L.Local.is_sealed _ c.clear.ensures c.clear-2.ensures c.clear-3.ensures.items refl
