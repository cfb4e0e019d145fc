use Rattle.std.proofs.Common.{length, refl}
use Rattle.flow_instance.specs.Spots.{setting}
use Rattle.flow_core.specs.Worlds.{WorldData}
use Rattle.flow_core.proofs.WorldLaws.{laws_hold}
use Rattle.flow_core.proofs.StartStands.{size_start, some_start, standing_start}
use Rattle.flow_core.proofs.StartedInstances.{started_queued_instances}
use Rattle.flow_instance.proofs.PartsOfPlans.{number_below}
use Rattle.flow_core.proofs.worlds.World.start_owned.Goals as goal

pub returns-clause-standing : goal.returns-clause-standing
returns-clause-standing g c =
    let p = c.args.program.now in
    let physical = c.args.physical.now in
    let w : WorldData = record { physical = c.new.result; depth = c.args.depth; queued_instances = c.in_ok-queued_instances.queued_instances.items } in
    let started = started_queued_instances (setting p c.args.inputs physical) c.args.batch (length p.ops) c.workers-workers.result c.in_ok-instances.instances c.in_ok-queued_instances.queued_instances.items c.workers-workers.ensures.workers
    c.in_ok-instances.ensures c.in_ok-queued_instances.ensures in
    standing_start (setting p c.args.inputs physical) c.args.batch (length p.ops) c.in_ok-queued_instances.queued_instances.items started w c.new.ensures refl
    (λ at there. number_below p.ops at physical.tree there c.requires.plan.arity) (λ at less. c.requires.plan.all at less)

pub returns-clause-stands : goal.returns-clause-stands
returns-clause-stands g c =
    let p = c.args.program.now in
    let physical = c.args.physical.now in
    let w : WorldData = record { physical = c.new.result; depth = c.args.depth; queued_instances = c.in_ok-queued_instances.queued_instances.items } in
    some_start p c.args.inputs physical w c.fields-fields.ensures.keeps c.requires.inputs c.workers-workers.ensures.physical c.requires.plan c.requires.depth.0 c.new.ensures (returns-clause-standing g c)

pub returns-clause-laws : goal.returns-clause-laws
returns-clause-laws g c = laws_hold (record { physical = c.new.result; depth = c.args.depth; queued_instances = c.in_ok-queued_instances.queued_instances.items }) (returns-clause-stands g c)

pub returns-clause-batch : goal.returns-clause-batch
returns-clause-batch g c =
    let p = c.args.program.now in
    let physical = c.args.physical.now in
    let w : WorldData = record { physical = c.new.result; depth = c.args.depth; queued_instances = c.in_ok-queued_instances.queued_instances.items } in
    let started = started_queued_instances (setting p c.args.inputs physical) c.args.batch (length p.ops) c.workers-workers.result c.in_ok-instances.instances c.in_ok-queued_instances.queued_instances.items c.workers-workers.ensures.workers
    c.in_ok-instances.ensures c.in_ok-queued_instances.ensures in
    size_start (setting p c.args.inputs physical) c.args.batch (length p.ops) c.in_ok-queued_instances.queued_instances.items started w c.new.ensures refl (λ at there. number_below p.ops at physical.tree there c.requires.plan.arity)
