use Rattle.std.proofs.Common.{◌≡◌, ◌<◌, ap, subst, sym, ◌∙◌, true, Some}
use Rattle.flow_instance.proofs.OnOkTogether.{on_ok_three}
use Rattle.plan_trees.specs.Physicals.{PhysicalData}
use Rattle.plan_trees.specs.Plans.{has}
use Rattle.flow_instance.specs.Events.{first_note}
use Rattle.flow_instance.specs.Instances.{Instance}
use Rattle.flow_instance.specs.Worlds.{reader_of}
use Rattle.flow_instance.specs.declared.notes.Note.{Note}
use Rattle.flow_core.specs.QueuedInstances.{IsReadyFor}
use Rattle.flow_core.specs.Worlds.{WorldData, instance_in, queue_in}
use Rattle.flow_core.proofs.EnabledEvents.{can_take_at, not_unread}
use Rattle.flow_core.proofs.WorldsAfterEvents.{take_steps}
use Rattle.flow_core.proofs.worlds.World.take.Goals as goal

pub remove_first-note-requires-clause-some : goal.remove_first-note-requires-clause-some
remove_first-note-requires-clause-some g c κs within =
    let reader : reader_of c.args.pipe.edge c.args.self.now.physical.tree ≡ Some (c.in-Some.at, c.in-Some.port) =
    ap (λ (w : WorldData). reader_of c.args.pipe.edge w.physical.tree) (sym c.self.view_is) ∙ sym c.reader.ensures ∙ c.in-Some.is in
    let can = can_take_at c.args.self.now c.args.pipe c.in-Some.at c.in-Some.port c.requires.stands c.requires.can reader in
    can.some

pub remove_first-note-requires-clause-has : goal.remove_first-note-requires-clause-has
remove_first-note-requires-clause-has g c κs within =
    let reader : reader_of c.args.pipe.edge c.args.self.now.physical.tree ≡ Some (c.in-Some.at, c.in-Some.port) =
    ap (λ (w : WorldData). reader_of c.args.pipe.edge w.physical.tree) (sym c.self.view_is) ∙ sym c.reader.ensures ∙ c.in-Some.is in
    let can = can_take_at c.args.self.now c.args.pipe c.in-Some.at c.in-Some.port c.requires.stands c.requires.can reader in
    can.sender.there

pub receive-requires-clause-ready : goal.receive-requires-clause-ready
receive-requires-clause-ready g c κs within =
    let reader : reader_of c.args.pipe.edge c.args.self.now.physical.tree ≡ Some (c.in-Some.at, c.in-Some.port) =
    ap (λ (w : WorldData). reader_of c.args.pipe.edge w.physical.tree) (sym c.self.view_is) ∙ sym c.reader.ensures ∙ c.in-Some.is in
    let can = can_take_at c.args.self.now c.args.pipe c.in-Some.at c.in-Some.port c.requires.stands c.requires.can reader in
    let p = c.args.pipe in
    subst (λ (n : Note). IsReadyFor (instance_in c.remove_first-note.new.self.queued_instances c.in-Some.at p.to) p.to c.in-Some.port p.from n) (sym c.remove_first-note.ensures.note)
    (subst (λ (i : Instance). IsReadyFor i p.to c.in-Some.port p.from (first_note (queue_in c.args.self.now.queued_instances p.edge p.from p.to))) (sym (c.remove_first-note.ensures.instances c.in-Some.at p.to)) can.ready)

pub receive-requires-clause-has : goal.receive-requires-clause-has
receive-requires-clause-has g c κs within =
    let reader : reader_of c.args.pipe.edge c.args.self.now.physical.tree ≡ Some (c.in-Some.at, c.in-Some.port) =
    ap (λ (w : WorldData). reader_of c.args.pipe.edge w.physical.tree) (sym c.self.view_is) ∙ sym c.reader.ensures ∙ c.in-Some.is in
    let can = can_take_at c.args.self.now c.args.pipe c.in-Some.at c.in-Some.port c.requires.stands c.requires.can reader in
    subst (λ (q : PhysicalData). has c.in-Some.at q.tree ≡ true) (sym c.remove_first-note.ensures.physical) can.receiver.there

pub returns-clause-stepped : goal.returns-clause-stepped
returns-clause-stepped g c =
    let reader : reader_of c.args.pipe.edge c.args.self.now.physical.tree ≡ Some (c.in-Some.at, c.in-Some.port) =
    ap (λ (w : WorldData). reader_of c.args.pipe.edge w.physical.tree) (sym c.self.view_is) ∙ sym c.reader.ensures ∙ c.in-Some.is in
    let can = can_take_at c.args.self.now c.args.pipe c.in-Some.at c.in-Some.port c.requires.stands c.requires.can reader in
    let removed = c.remove_first-note.ensures in
    on_ok_three c.receive.result (λ took others kept s h st.
    take_steps s c.args.self.now c.remove_first-note.new.self c.receive.new.self h c.args.pipe c.in-Some.at c.in-Some.port c.remove_first-note.result st reader can.receiver.there can.receiver.below
    removed.instances removed.queue removed.note took others kept)
    c.receive.ensures.took c.receive.ensures.others c.receive.ensures.queues

pub unreachable-requires : goal.unreachable-requires
unreachable-requires g c =
    not_unread c.args.self.now c.args.pipe c.requires.can (ap (λ (w : WorldData). reader_of c.args.pipe.edge w.physical.tree) (sym c.self.view_is) ∙ sym c.reader.ensures ∙ c.in_default.is)

pub remove_first-note-requires-clause-whole : goal.remove_first-note-requires-clause-whole
remove_first-note-requires-clause-whole g c κs within = c.requires.stands.standing.whole

pub remove_first-note-requires-clause-from : goal.remove_first-note-requires-clause-from
remove_first-note-requires-clause-from g c κs within =
    let reader : reader_of c.args.pipe.edge c.args.self.now.physical.tree ≡ Some (c.in-Some.at, c.in-Some.port) =
    ap (λ (w : WorldData). reader_of c.args.pipe.edge w.physical.tree) (sym c.self.view_is) ∙ sym c.reader.ensures ∙ c.in-Some.is in
    (can_take_at c.args.self.now c.args.pipe c.in-Some.at c.in-Some.port c.requires.stands c.requires.can reader).sender.below

pub remove_first-note-requires-clause-to : goal.remove_first-note-requires-clause-to
remove_first-note-requires-clause-to g c κs within =
    let reader : reader_of c.args.pipe.edge c.args.self.now.physical.tree ≡ Some (c.in-Some.at, c.in-Some.port) =
    ap (λ (w : WorldData). reader_of c.args.pipe.edge w.physical.tree) (sym c.self.view_is) ∙ sym c.reader.ensures ∙ c.in-Some.is in
    (can_take_at c.args.self.now c.args.pipe c.in-Some.at c.in-Some.port c.requires.stands c.requires.can reader).receiver.below

pub receive-requires-clause-whole : goal.receive-requires-clause-whole
receive-requires-clause-whole g c κs within = c.remove_first-note.ensures.whole

pub receive-requires-clause-worker : goal.receive-requires-clause-worker
receive-requires-clause-worker g c κs within =
    let reader : reader_of c.args.pipe.edge c.args.self.now.physical.tree ≡ Some (c.in-Some.at, c.in-Some.port) =
    ap (λ (w : WorldData). reader_of c.args.pipe.edge w.physical.tree) (sym c.self.view_is) ∙ sym c.reader.ensures ∙ c.in-Some.is in
    let can = can_take_at c.args.self.now c.args.pipe c.in-Some.at c.in-Some.port c.requires.stands c.requires.can reader in
    subst (λ (q : PhysicalData). c.args.pipe.to < q.workers) (sym c.remove_first-note.ensures.physical) can.receiver.below

pub returns-clause-whole : goal.returns-clause-whole
returns-clause-whole g c = c.receive.ensures.whole

pub returns-clause-physical : goal.returns-clause-physical
returns-clause-physical g c = c.receive.ensures.physical ∙ c.remove_first-note.ensures.physical

pub returns-clause-depth : goal.returns-clause-depth
returns-clause-depth g c = c.receive.ensures.depth ∙ c.remove_first-note.ensures.depth
