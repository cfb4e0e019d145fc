use Rattle.std.proofs.Common.{ap, subst, ◌∙◌}
use Rattle.std.specs.Prelude.{slice_get}
use Rattle.flow_instance.specs.Instances.{Instance, want}
use Rattle.flow_instance.specs.Spots.{is_edge}
use Rattle.flow_instance.specs.Steps.{Took}
use Rattle.pact_operators.specs.PlanOps.{PlanOps}
use Rattle.flow_instance.specs.States.{AreOpsOf, part_of, seen, spot_of}
use Rattle.flow_instance.proofs.SmallBatches.{small_batches}
use Rattle.flow_instance.proofs.InstancesOfPlans.{local_taken, same_part, took_for, took_receiver}
use Rattle.flow_instance.proofs.WantsOfInstances.{ready}
use Rattle.flow_instance.proofs.instances.Instance.took.Goals as goal

pub take-requires-clause-ready : goal.take-requires-clause-ready
take-requires-clause-ready g c = λ lifetimes bound.
    ready g.L.Local.rows g.L.Local.key_fields g.L.Local.is_sealed c.self.inside.state c.args.port c.args.from c.self.invariant (ap want c.self.view_is ∙ c.requires.want)
    ((λ x. is_edge (slice_get (c.self.view_is x).part.ports c.args.port) c.args.from (c.self.view_is x).part.worker) ∙ c.requires.edge)

pub returns-clause-took : goal.returns-clause-took
returns-clause-took g c = λ s taken put l.
    let old = c.self.inside.state in
    let t = c.take.new.self in
    let j = record (seen g.L.Local.rows t) { receiver = t.part.workers } in
    let took = subst (λ (i : Instance). (ops : PlanOps) → AreOpsOf ops i.part → Took (spot_of i.part ops) i.part.worker i c.args.port c.args.from c.args.note j) c.self.view_is
    (λ ops a. took_receiver (spot_of (part_of old.part) ops) old.part.worker (seen g.L.Local.rows old) (seen g.L.Local.rows t) c.args.port c.args.from t.part.workers c.args.note (c.in_default.ensures.took ops a)) in
    took_for s c.args.self.now j c.args.port c.args.from c.args.note taken put took l

pub returns-clause-local : goal.returns-clause-local
returns-clause-local g c = λ s taken new put l a.
    let old = c.self.inside.state in
    let t = c.take.new.self in
    let j = record (seen g.L.Local.rows t) { receiver = t.part.workers } in
    let took = subst (λ (i : Instance). (ops : PlanOps) → AreOpsOf ops i.part → Took (spot_of i.part ops) i.part.worker i c.args.port c.args.from c.args.note j) c.self.view_is
    (λ ops o. took_receiver (spot_of (part_of old.part) ops) old.part.worker (seen g.L.Local.rows old) (seen g.L.Local.rows t) c.args.port c.args.from t.part.workers c.args.note (c.in_default.ensures.took ops o)) in
    local_taken s c.args.self.now j c.args.port c.args.from c.args.note taken new put took c.requires.want c.requires.edge c.requires.from c.requires.not_ended c.requires.note l a

pub returns-clause-part : goal.returns-clause-part
returns-clause-part g c =
    let old = c.self.inside.state in
    same_part (seen g.L.Local.rows old) (seen g.L.Local.rows c.take.new.self) c.args.port c.args.from c.args.note c.in_default.ensures.took ∙ ap (λ (i : Instance). i.part) c.self.view_is

pub returns-clause-small : goal.returns-clause-small
returns-clause-small g c = small_batches g.L.Local.rows c.take.new.self c.in_default.ensures.batches
