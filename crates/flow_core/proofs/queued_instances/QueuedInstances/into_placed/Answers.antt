use Rattle.std.proofs.Common.{List, [], subst, sym}
use Rattle.pact_operators.specs.Allowed.{Bag}
use Rattle.flow_core.specs.Worlds.{QueuedInstanceData}
use Rattle.flow_core.proofs.PlacedRows.{IsMoved, moved-next, moved_width, none_moved}
use Rattle.flow_core.proofs.queued_instances.QueuedInstances.into_placed.Goals as goal

pub loop-queued_instance-init : goal.loop-queued_instance-init
loop-queued_instance-init g c =
    let whole = c.args.self in
    subst (λ (rows : Bag). IsMoved whole c.self.inside.held.items rows) (sym c.new-rows.ensures)
    (subst (λ (rest : List QueuedInstanceData). IsMoved whole rest []) (sym c.self.view_is) (none_moved whole))

pub append-requires : goal.append-requires
append-requires g c =
    moved_width c.args.self c.loop-queued_instance.held.items c.pop.new.self.items c.in-Some.queued_instance c.loop-queued_instance.rows c.into_placed-placed.result c.requires c.loop-queued_instance.invariant c.in-Some.ensures.items c.into_placed-placed.ensures

pub loop-queued_instance-preserved : goal.loop-queued_instance-preserved
loop-queued_instance-preserved g c =
    moved-next c.args.self c.loop-queued_instance.held.items c.pop.new.self.items c.in-Some.queued_instance c.loop-queued_instance.rows c.into_placed-placed.result c.append.new.self c.loop-queued_instance.invariant c.in-Some.ensures.items c.into_placed-placed.ensures
    c.in_ok-append.ensures.ok
