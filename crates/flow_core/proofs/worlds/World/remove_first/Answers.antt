use Rattle.std.proofs.Common.{◌<◌, ap, length, subst, sym, ◌∙◌, ℕ, [], get_or, set}
use Rattle.std.proofs.lemmas.List.{length-set}
use Rattle.flow_instance.specs.Events.{first_note}
use Rattle.flow_instance.specs.Steps.{later}
use Rattle.flow_core.specs.QueuedInstances.{without_first}
use Rattle.flow_core.specs.Worlds.{QueuedInstanceData, WorldData, queue_in}
use Rattle.flow_core.proofs.ChangedQueuedInstances.{list_changed, same_instances, whole_after}
use Rattle.flow_core.proofs.QueuedInstancesAtPlaces.{found_at}
use Rattle.flow_core.proofs.worlds.World.remove_first.Goals as goal

pub remove_first-requires-after_bounds : goal.remove_first-requires-after_bounds
remove_first-requires-after_bounds g c κs inside =
    let f = found_at c.args.self.now.physical c.args.self.now.queued_instances c.self.inside.queued_instances.items c.behind-self.inside.held.items c.index_mut.result.now c.args.pipe.edge c.args.pipe.from c.index_mut-2.result.now c.requires.whole c.requires.has c.requires.from
    (ap (λ (x : WorldData). x.queued_instances) c.self.view_is) c.behind-self.view_is c.index_mut.ensures.value c.index_mut-2.ensures.value in
    subst (λ (y : QueuedInstanceData). 0 < length (get_or y.queues c.args.pipe.to [])) (sym f.is) c.requires.some

pub returns-clause-note : goal.returns-clause-note
returns-clause-note g c =
    let f = found_at c.args.self.now.physical c.args.self.now.queued_instances c.self.inside.queued_instances.items c.behind-self.inside.held.items c.index_mut.result.now c.args.pipe.edge c.args.pipe.from c.index_mut-2.result.now c.requires.whole c.requires.has c.requires.from
    (ap (λ (x : WorldData). x.queued_instances) c.self.view_is) c.behind-self.view_is c.index_mut.ensures.value c.index_mut-2.ensures.value in
    c.remove_first.ensures.note ∙ ap (λ (y : QueuedInstanceData). first_note (get_or y.queues c.args.pipe.to [])) f.is

pub returns-clause-instances : goal.returns-clause-instances
returns-clause-instances g c =
    let f = found_at c.args.self.now.physical c.args.self.now.queued_instances c.self.inside.queued_instances.items c.behind-self.inside.held.items c.index_mut.result.now c.args.pipe.edge c.args.pipe.from c.index_mut-2.result.now c.requires.whole c.requires.has c.requires.from
    (ap (λ (x : WorldData). x.queued_instances) c.self.view_is) c.behind-self.view_is c.index_mut.ensures.value c.index_mut-2.ensures.value in
    let new = set c.self.inside.queued_instances.items c.args.pipe.edge (set c.behind-self.inside.held.items c.args.pipe.from c.remove_first.new.self) in
    same_instances c.args.self.now.queued_instances new c.args.pipe.edge c.args.pipe.from c.remove_first.new.self (f.changed c.remove_first.new.self) (ap (λ (y : QueuedInstanceData). y.instance) (c.remove_first.ensures.queued_instance ∙ ap (λ (y : QueuedInstanceData). without_first y c.args.pipe.to) f.is))

pub returns-clause-queue : goal.returns-clause-queue
returns-clause-queue g c =
    let f = found_at c.args.self.now.physical c.args.self.now.queued_instances c.self.inside.queued_instances.items c.behind-self.inside.held.items c.index_mut.result.now c.args.pipe.edge c.args.pipe.from c.index_mut-2.result.now c.requires.whole c.requires.has c.requires.from
    (ap (λ (x : WorldData). x.queued_instances) c.self.view_is) c.behind-self.view_is c.index_mut.ensures.value c.index_mut-2.ensures.value in
    let new = set c.self.inside.queued_instances.items c.args.pipe.edge (set c.behind-self.inside.held.items c.args.pipe.from c.remove_first.new.self) in
    let to = subst (λ (n : ℕ). c.args.pipe.to < n) (sym (c.requires.whole.pipes c.args.pipe.edge c.args.pipe.from f.below c.requires.from)) c.requires.to in
    list_changed c.args.self.now.queued_instances new c.args.pipe (later (queue_in c.args.self.now.queued_instances c.args.pipe.edge c.args.pipe.from c.args.pipe.to)) c.remove_first.new.self (f.changed c.remove_first.new.self)
    (ap (λ (y : QueuedInstanceData). y.queues) (c.remove_first.ensures.queued_instance ∙ ap (λ (y : QueuedInstanceData). without_first y c.args.pipe.to) f.is)) to

pub returns-clause-whole : goal.returns-clause-whole
returns-clause-whole g c =
    let f = found_at c.args.self.now.physical c.args.self.now.queued_instances c.self.inside.queued_instances.items c.behind-self.inside.held.items c.index_mut.result.now c.args.pipe.edge c.args.pipe.from c.index_mut-2.result.now c.requires.whole c.requires.has c.requires.from
    (ap (λ (x : WorldData). x.queued_instances) c.self.view_is) c.behind-self.view_is c.index_mut.ensures.value c.index_mut-2.ensures.value in
    whole_after c.args.self.now.physical c.self.inside.tables c.args.self.now.queued_instances c.self.inside.queued_instances.items c.behind-self.inside.held.items c.args.pipe.edge c.args.pipe.from c.index_mut-2.result.now c.remove_first.new.self c.requires.whole (ap (λ (y : WorldData). y.physical) c.self.view_is) (ap (λ (x : WorldData). x.queued_instances) c.self.view_is) f
    (ap (λ (y : QueuedInstanceData). length y.queues) c.remove_first.ensures.queued_instance ∙ length-set c.index_mut-2.result.now.queues c.args.pipe.to _ ∙ f.pipes)
