use Rattle.std.proofs.Common.{ap, subst}
use Rattle.std.proofs.lemmas.Result.{on_ok_weaker}
use Rattle.flow_instance.specs.Instances.{Instance}
use Rattle.flow_core.specs.QueuedInstances.{TakesNote}
use Rattle.flow_core.specs.Worlds.{QueuedInstanceData}
use Rattle.flow_core.proofs.queued_instances.QueuedInstance.take.Goals as goal

pub returns-clause-took : goal.returns-clause-took
returns-clause-took g c =
    let same = ap (λ (s : QueuedInstanceData). s.instance) c.self.view_is in
    on_ok_weaker c.took.result (λ took. subst (λ (i : Instance). TakesNote i c.args.port c.args.from c.args.note c.took.new.self) same (record { took = took })) c.took.ensures.took
