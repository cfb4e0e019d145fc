use Rattle.flow_core.proofs.PickedEvents.{led_more, led_none, led_same, stayed, went}
use Rattle.flow_core.proofs.picks.go_by_picks.Goals as goal

pub loop-pick-init : goal.loop-pick-init
loop-pick-init g c = led_none c.args.world.now c.requires

pub loop-pick-preserved : goal.loop-pick-preserved
loop-pick-preserved g c =
    let u = c.loop-pick.world in
    let v = c.go_by_pick.new.world in
    led_more c.args.world.now u v c.loop-pick.invariant (went u v _ _ c.if-not-branch.false c.in_ok-go_by_pick.ensures)

pub returns-then-not-branch : goal.returns-then-not-branch
returns-then-not-branch g c =
    let u = c.loop-pick.world in
    let v = c.go_by_pick.new.world in
    led_same c.args.world.now u v c.loop-pick.invariant (stayed u v _ _ c.if-not-branch.true c.in_ok-go_by_pick.ensures)
