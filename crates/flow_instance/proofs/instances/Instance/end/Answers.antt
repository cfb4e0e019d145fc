use Rattle.std.proofs.Common.{sym, subst}
use Rattle.flow_instance.proofs.LocalAfterPuts.{finish_local}
use Rattle.flow_instance.specs.Instances.{Instance}
use Rattle.flow_instance.specs.Local.{IsLocal}
use Rattle.flow_instance.specs.Steps.{finish}
use Rattle.flow_instance.proofs.instances.Instance.end.Goals as goal

pub returns-clause-local : goal.returns-clause-local
returns-clause-local g c = λ s taken put l.
    let i = c.args.self.now in
    subst (λ (j : Instance). IsLocal s i.part.worker (finish j) taken put) (sym c.self.view_is) (finish_local s i.part.worker i taken put l c.requires)
