use Rattle.std.proofs.Common.{◌≡◌, ◌<◌, Some, length, map, sym, subst}
use Rattle.std.specs.Prelude.{slice_get}
use Rattle.flow_instance.specs.Instances.{Instance}
use Rattle.flow_instance.proofs.WantsOfInstances.{edge_at}
use Rattle.flow_instance.proofs.instances.Instance.edge.Goals as goal

pub returns : goal.returns
returns g c =
    subst (λ (i : Instance). slice_get (map (λ p. p.edge) i.part.ports) c.args.port ≡ Some c.index.result.now.edge) c.self.view_is
    (edge_at c.self.inside.state.part.ports.items c.args.port c.index.result.now (subst (λ (i : Instance). c.args.port < length i.part.ports) (sym c.self.view_is) c.requires) c.index.ensures)
