use Rattle.std.proofs.Common.{◌≤◌, ◌∙◌, ap, length, subst, sym, ℕ}
use Rattle.plan_trees.specs.Physicals.{PhysicalData}
use Rattle.flow_instance.specs.Worlds.{World}
use Rattle.flow_core.specs.Left.{AreAllEmptied, AreFilled}
use Rattle.flow_core.proofs.LeftWorlds.{left_for_some, left_seen, left_standing}
use Rattle.flow_core.proofs.WorldLaws.{laws_hold}
use Rattle.flow_core.proofs.worlds.World.resume.Goals as goal

pub returns-clause-same : goal.returns-clause-same
returns-clause-same g c =
    let p = c.args.physical.now in
    let first = c.in_ok-queued_instances.queued_instances.items in
    let e = subst (λ (n : ℕ). AreAllEmptied n (length c.args.instances) c.args.instances first) c.workers-workers.ensures.workers c.in_ok-queued_instances.ensures in
    let f = subst (λ (q : PhysicalData). AreFilled q first c.args.notes c.refill_all.new.world.queued_instances) c.new.ensures c.in_ok-refill_all.ensures.filled in
    left_seen p c.args.instances c.args.notes first c.requires.of_plan e c.refill_all.new.world f

pub returns-clause-batch : goal.returns-clause-batch
returns-clause-batch g c = let same = returns-clause-same g c in λ at worker. ap (λ (v : World). (v.instance at worker).part.batch) same

pub returns-clause-standing : goal.returns-clause-standing
returns-clause-standing g c = λ s h.
    let p = c.args.physical.now in
    let first = c.in_ok-queued_instances.queued_instances.items in
    let e = subst (λ (n : ℕ). AreAllEmptied n (length c.args.instances) c.args.instances first) c.workers-workers.ensures.workers c.in_ok-queued_instances.ensures in
    let f = subst (λ (q : PhysicalData). AreFilled q first c.args.notes c.refill_all.new.world.queued_instances) c.new.ensures c.in_ok-refill_all.ensures.filled in
    left_standing p c.args.instances c.args.notes first c.requires.of_plan e c.refill_all.new.world f s h (c.in_ok-refill_all.ensures.physical ∙ c.new.ensures)

pub returns-clause-stands : goal.returns-clause-stands
returns-clause-stands g c =
    let p = c.args.physical.now in
    let first = c.in_ok-queued_instances.queued_instances.items in
    let e = subst (λ (n : ℕ). AreAllEmptied n (length c.args.instances) c.args.instances first) c.workers-workers.ensures.workers c.in_ok-queued_instances.ensures in
    let f = subst (λ (q : PhysicalData). AreFilled q first c.args.notes c.refill_all.new.world.queued_instances) c.new.ensures c.in_ok-refill_all.ensures.filled in
    let same = c.in_ok-refill_all.ensures.physical ∙ c.new.ensures in
    let deep = subst (λ (n : ℕ). 1 ≤ n) (sym c.in_ok-refill_all.ensures.depth) c.requires.depth.0 in
    left_for_some p c.args.instances c.args.notes first c.requires.of_plan e c.refill_all.new.world f c.args.program.now c.fields-fields.ensures.keeps c.workers-workers.ensures.physical c.requires.plan deep same c.requires.stand

pub returns-clause-laws : goal.returns-clause-laws
returns-clause-laws g c = laws_hold c.refill_all.new.world (returns-clause-stands g c)
