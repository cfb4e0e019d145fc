use Rattle.std.proofs.Common.{◌≡◌, arith, ap, length}
use Rattle.flow_core.specs.Picks.{enabled_events}
use Rattle.flow_core.specs.Worlds.{seen}
use Rattle.flow_core.proofs.PickedEvents.{picked_at, picked_empty, picked_on, stuck_if_none}
use Rattle.flow_core.proofs.worlds.World.picked_event.Goals as goal

pub returns-then-len-eq0-clause-none : goal.returns-then-len-eq0-clause-none
returns-then-len-eq0-clause-none g c =
    let w = c.args.self.now in
    let list = enabled_events w.physical w.depth (seen w) in
    let same = ap length c.in_ok-events.ensures in
    let none : length list ≡ 0 = omega (arith, same, c.len.ensures, c.if-len-eq0.true, c.in_ok-events.events.ok.0) in
    stuck_if_none w.physical w.depth (seen w) c.requires c.args.pick (picked_empty list c.args.pick none)

pub returns-clause-picked : goal.returns-clause-picked
returns-clause-picked g c =
    let w = c.args.self.now in
    let items = c.in_ok-events.events.items in
    let long : c.len-2.result ≡ length items = omega (arith, c.len-2.ensures, c.in_ok-events.events.ok.0) in
    picked_at (enabled_events w.physical w.depth (seen w)) items c.args.pick c.len-2.result c.index.result.now c.index.result.now c.in_ok-events.ensures long (omega (arith, c.if-len-eq0.false, c.len.ensures, c.len-2.ensures))
    c.index.ensures

pub returns-clause-some : goal.returns-clause-some
returns-clause-some g c =
    let w = c.args.self.now in
    let items = c.in_ok-events.events.items in
    let long : c.len-2.result ≡ length items = omega (arith, c.len-2.ensures, c.in_ok-events.events.ok.0) in
    picked_on w.physical w.depth (seen w) c.args.pick c.index.result.now
    (picked_at (enabled_events w.physical w.depth (seen w)) items c.args.pick c.len-2.result c.index.result.now c.index.result.now c.in_ok-events.ensures long (omega (arith, c.if-len-eq0.false, c.len.ensures, c.len-2.ensures))
    c.index.ensures)
