use Rattle.std.proofs.Common.{◌≡◌, ap, length, subst, sym, ◌∙◌, ℕ, set}
use Rattle.std.proofs.lemmas.Result.{on_ok_weaker}
use Rattle.flow_instance.specs.Instances.{Instance}
use Rattle.flow_instance.specs.Local.{IsLocal}
use Rattle.flow_instance.specs.Steps.{Took}
use Rattle.flow_core.specs.QueuedInstances.{IsReadyFor}
use Rattle.flow_core.specs.Worlds.{QueuedInstanceData, WorldData, instance_in}
use Rattle.flow_core.proofs.ChangedQueuedInstances.{same_queues, whole_after}
use Rattle.flow_core.proofs.QueuedInstancesAtPlaces.{found_at}
use Rattle.flow_core.proofs.worlds.World.receive.Goals as goal

pub returns-clause-took : goal.returns-clause-took
returns-clause-took g c =
    let f = found_at c.args.self.now.physical c.args.self.now.queued_instances c.self.inside.queued_instances.items c.behind-self.inside.held.items c.index_mut.result.now c.args.at c.args.worker c.index_mut-2.result.now c.requires.whole c.requires.has c.requires.worker
    (ap (λ (x : WorldData). x.queued_instances) c.self.view_is) c.behind-self.view_is c.index_mut.ensures.value c.index_mut-2.ensures.value in
    let i = instance_in c.args.self.now.queued_instances c.args.at c.args.worker in
    let instance : c.index_mut-2.result.now.instance ≡ i = ap (λ (s : QueuedInstanceData). s.instance) f.is in
    let on : c.index_mut-2.result.now.instance.part.worker ≡ c.args.worker = ap (λ (j : Instance). j.part.worker) instance ∙ c.requires.ready.worker in
    on_ok_weaker c.take.result (λ took s taken put l.
    subst (λ (j : Instance). Took s c.args.worker i c.args.port c.args.from c.args.note j) (ap (λ (y : QueuedInstanceData). y.instance) (sym (f.changed c.take.new.self).here))
    (subst (λ (j : Instance). Took s c.args.worker j c.args.port c.args.from c.args.note c.take.new.self.instance) instance
    (subst (λ (n : ℕ). Took s n c.index_mut-2.result.now.instance c.args.port c.args.from c.args.note c.take.new.self.instance) on
    (took.took s taken put (subst (λ (n : ℕ). IsLocal s n c.index_mut-2.result.now.instance taken put) (sym on) (subst (λ (j : Instance). IsLocal s c.args.worker j taken put) (sym instance) l)))))) c.take.ensures.took

pub returns-clause-others : goal.returns-clause-others
returns-clause-others g c =
    let f = found_at c.args.self.now.physical c.args.self.now.queued_instances c.self.inside.queued_instances.items c.behind-self.inside.held.items c.index_mut.result.now c.args.at c.args.worker c.index_mut-2.result.now c.requires.whole c.requires.has c.requires.worker
    (ap (λ (x : WorldData). x.queued_instances) c.self.view_is) c.behind-self.view_is c.index_mut.ensures.value c.index_mut-2.ensures.value in
    on_ok_weaker c.take.result (λ took a b other. ap (λ (s : QueuedInstanceData). s.instance) ((f.changed c.take.new.self).others a b other)) c.take.ensures.took

pub returns-clause-queues : goal.returns-clause-queues
returns-clause-queues g c =
    let f = found_at c.args.self.now.physical c.args.self.now.queued_instances c.self.inside.queued_instances.items c.behind-self.inside.held.items c.index_mut.result.now c.args.at c.args.worker c.index_mut-2.result.now c.requires.whole c.requires.has c.requires.worker
    (ap (λ (x : WorldData). x.queued_instances) c.self.view_is) c.behind-self.view_is c.index_mut.ensures.value c.index_mut-2.ensures.value in
    let new = set c.self.inside.queued_instances.items c.args.at (set c.behind-self.inside.held.items c.args.worker c.take.new.self) in
    let same = c.take.ensures.queues ∙ ap (λ (y : QueuedInstanceData). y.queues) f.is in
    on_ok_weaker c.take.result (λ _. same_queues c.args.self.now.queued_instances new c.args.at c.args.worker c.take.new.self (f.changed c.take.new.self) same) c.take.ensures.took

pub returns-clause-whole : goal.returns-clause-whole
returns-clause-whole g c =
    let f = found_at c.args.self.now.physical c.args.self.now.queued_instances c.self.inside.queued_instances.items c.behind-self.inside.held.items c.index_mut.result.now c.args.at c.args.worker c.index_mut-2.result.now c.requires.whole c.requires.has c.requires.worker
    (ap (λ (x : WorldData). x.queued_instances) c.self.view_is) c.behind-self.view_is c.index_mut.ensures.value c.index_mut-2.ensures.value in
    on_ok_weaker c.take.result (λ _. whole_after c.args.self.now.physical c.self.inside.tables c.args.self.now.queued_instances c.self.inside.queued_instances.items c.behind-self.inside.held.items c.args.at c.args.worker c.index_mut-2.result.now c.take.new.self c.requires.whole (ap (λ (y : WorldData). y.physical) c.self.view_is) (ap (λ (x : WorldData). x.queued_instances) c.self.view_is) f
    (ap length c.take.ensures.queues ∙ f.pipes)) c.take.ensures.took

pub take-requires-after_bounds : goal.take-requires-after_bounds
take-requires-after_bounds g c κs inside =
    let f = found_at c.args.self.now.physical c.args.self.now.queued_instances c.self.inside.queued_instances.items c.behind-self.inside.held.items c.index_mut.result.now c.args.at c.args.worker c.index_mut-2.result.now c.requires.whole c.requires.has c.requires.worker
    (ap (λ (x : WorldData). x.queued_instances) c.self.view_is) c.behind-self.view_is c.index_mut.ensures.value c.index_mut-2.ensures.value in
    let instance : c.index_mut-2.result.now.instance ≡ instance_in c.args.self.now.queued_instances c.args.at c.args.worker = ap (λ (s : QueuedInstanceData). s.instance) f.is in
    let on : c.index_mut-2.result.now.instance.part.worker ≡ c.args.worker = ap (λ (j : Instance). j.part.worker) instance ∙ c.requires.ready.worker in
    record {
      ready = subst (λ (n : ℕ). IsReadyFor c.index_mut-2.result.now.instance n c.args.port c.args.from c.args.note) (sym on)
          (subst (λ (j : Instance). IsReadyFor j c.args.worker c.args.port c.args.from c.args.note) (sym instance) c.requires.ready);
    }
