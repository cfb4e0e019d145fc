use Rattle.flow_core.proofs.RunAlone.{ended_here, reached-next, reached_none}
use Rattle.flow_core.proofs.alone.go_on.Goals as goal

pub returns-in_default : goal.returns-in_default
returns-in_default g c = ended_here c.args.world.now c.requires c.in_default.ensures.none

pub returns : goal.returns
returns g c =
    let w = c.args.world.now in
    let step = c.in_ok-step.ensures in
    reached-next w w c.step.new.self 0 c.in-Some.event (reached_none w c.requires) c.in-Some.ensures.some step.stepped step.standing step.physical step.stands
