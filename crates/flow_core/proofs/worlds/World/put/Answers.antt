use Rattle.std.proofs.Common.{◌<◌, ap, length, subst, sym, ◌∙◌, ℕ, set}
use Rattle.std.proofs.lemmas.List.{length-set}
use Rattle.std.proofs.lemmas.Result.{on_ok_weaker}
use Rattle.flow_instance.specs.Instances.{want}
use Rattle.flow_core.specs.QueuedInstances.{with_put}
use Rattle.flow_core.specs.Worlds.{QueuedInstanceData, WorldData}
use Rattle.flow_core.proofs.ChangedQueuedInstances.{puts_at, whole_after}
use Rattle.flow_core.proofs.QueuedInstancesAtPlaces.{found_at}
use Rattle.flow_core.proofs.worlds.World.put.Goals as goal

pub put-requires-clause-wanted : goal.put-requires-clause-wanted
put-requires-clause-wanted g c κs inside =
    let f = found_at c.args.self.now.physical c.args.self.now.queued_instances c.self.inside.queued_instances.items c.behind-self.inside.held.items c.index_mut.result.now c.args.pipe.edge c.args.pipe.from c.index_mut-2.result.now c.requires.whole c.requires.has c.requires.from
    (ap (λ (x : WorldData). x.queued_instances) c.self.view_is) c.behind-self.view_is c.index_mut.ensures.value c.index_mut-2.ensures.value in
    ap (λ (y : QueuedInstanceData). want y.instance) f.is ∙ c.requires.wanted

pub put-requires-clause-to : goal.put-requires-clause-to
put-requires-clause-to g c κs inside =
    let f = found_at c.args.self.now.physical c.args.self.now.queued_instances c.self.inside.queued_instances.items c.behind-self.inside.held.items c.index_mut.result.now c.args.pipe.edge c.args.pipe.from c.index_mut-2.result.now c.requires.whole c.requires.has c.requires.from
    (ap (λ (x : WorldData). x.queued_instances) c.self.view_is) c.behind-self.view_is c.index_mut.ensures.value c.index_mut-2.ensures.value in
    subst (λ (n : ℕ). c.args.pipe.to < n) (sym (ap (λ (y : QueuedInstanceData). length y.queues) f.is ∙ c.requires.whole.pipes c.args.pipe.edge c.args.pipe.from f.below c.requires.from)) c.requires.to

pub returns-clause-put : goal.returns-clause-put
returns-clause-put g c =
    let f = found_at c.args.self.now.physical c.args.self.now.queued_instances c.self.inside.queued_instances.items c.behind-self.inside.held.items c.index_mut.result.now c.args.pipe.edge c.args.pipe.from c.index_mut-2.result.now c.requires.whole c.requires.has c.requires.from
    (ap (λ (x : WorldData). x.queued_instances) c.self.view_is) c.behind-self.view_is c.index_mut.ensures.value c.index_mut-2.ensures.value in
    let new = set c.self.inside.queued_instances.items c.args.pipe.edge (set c.behind-self.inside.held.items c.args.pipe.from c.put.new.self) in
    let to = subst (λ (n : ℕ). c.args.pipe.to < n) (sym (c.requires.whole.pipes c.args.pipe.edge c.args.pipe.from f.below c.requires.from)) c.requires.to in
    on_ok_weaker c.put.result (λ done. puts_at c.args.self.now.queued_instances new c.args.pipe c.put.new.self (f.changed c.put.new.self) (done ∙ ap (λ (y : QueuedInstanceData). with_put y c.args.pipe.to) f.is) to) c.put.ensures

pub returns-clause-whole : goal.returns-clause-whole
returns-clause-whole g c =
    let f = found_at c.args.self.now.physical c.args.self.now.queued_instances c.self.inside.queued_instances.items c.behind-self.inside.held.items c.index_mut.result.now c.args.pipe.edge c.args.pipe.from c.index_mut-2.result.now c.requires.whole c.requires.has c.requires.from
    (ap (λ (x : WorldData). x.queued_instances) c.self.view_is) c.behind-self.view_is c.index_mut.ensures.value c.index_mut-2.ensures.value in
    on_ok_weaker c.put.result (λ done. whole_after c.args.self.now.physical c.self.inside.tables c.args.self.now.queued_instances c.self.inside.queued_instances.items c.behind-self.inside.held.items c.args.pipe.edge c.args.pipe.from c.index_mut-2.result.now c.put.new.self c.requires.whole (ap (λ (y : WorldData). y.physical) c.self.view_is) (ap (λ (x : WorldData). x.queued_instances) c.self.view_is) f
    (ap (λ (y : QueuedInstanceData). length y.queues) done ∙ length-set c.index_mut-2.result.now.queues c.args.pipe.to _ ∙ f.pipes)) c.put.ensures
