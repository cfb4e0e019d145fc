use Rattle.std.proofs.Common.{ap, length, ◌∙◌, set}
use Rattle.flow_core.specs.QueuedInstances.{with_end}
use Rattle.flow_core.specs.Worlds.{QueuedInstanceData, WorldData}
use Rattle.flow_core.proofs.ChangedQueuedInstances.{ends_at, whole_after}
use Rattle.flow_core.proofs.QueuedInstancesAtPlaces.{found_at}
use Rattle.flow_core.proofs.worlds.World.end.Goals as goal

pub returns-clause-ends : goal.returns-clause-ends
returns-clause-ends g c =
    let f = found_at c.args.self.now.physical c.args.self.now.queued_instances c.self.inside.queued_instances.items c.behind-self.inside.held.items c.index_mut.result.now c.args.at c.args.worker c.index_mut-2.result.now c.requires.whole c.requires.has c.requires.worker
    (ap (λ (x : WorldData). x.queued_instances) c.self.view_is) c.behind-self.view_is c.index_mut.ensures.value c.index_mut-2.ensures.value in
    let new = set c.self.inside.queued_instances.items c.args.at (set c.behind-self.inside.held.items c.args.worker c.end.new.self) in
    ends_at c.args.self.now.queued_instances new c.args.at c.args.worker c.end.new.self (f.changed c.end.new.self) (c.end.ensures ∙ ap with_end f.is)

pub returns-clause-whole : goal.returns-clause-whole
returns-clause-whole g c =
    let f = found_at c.args.self.now.physical c.args.self.now.queued_instances c.self.inside.queued_instances.items c.behind-self.inside.held.items c.index_mut.result.now c.args.at c.args.worker c.index_mut-2.result.now c.requires.whole c.requires.has c.requires.worker
    (ap (λ (x : WorldData). x.queued_instances) c.self.view_is) c.behind-self.view_is c.index_mut.ensures.value c.index_mut-2.ensures.value in
    whole_after c.args.self.now.physical c.self.inside.tables c.args.self.now.queued_instances c.self.inside.queued_instances.items c.behind-self.inside.held.items c.args.at c.args.worker c.index_mut-2.result.now c.end.new.self c.requires.whole (ap (λ (y : WorldData). y.physical) c.self.view_is) (ap (λ (x : WorldData). x.queued_instances) c.self.view_is) f
    (ap (λ (y : QueuedInstanceData). length y.queues) c.end.ensures ∙ f.pipes)
