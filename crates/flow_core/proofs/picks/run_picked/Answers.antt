use Rattle.std.proofs.lemmas.Result.{IfOk-weaker}
use Rattle.flow_core.proofs.PickedEvents.{led_outcome}
use Rattle.flow_core.proofs.picks.run_picked.Goals as goal

pub returns : goal.returns
returns g c =
    let w = c.args.world in
    let v = c.go_by_picks.new.world in
    IfOk-weaker c.run_alone.result _ _ (λ o f. led_outcome w v o c.in_ok-go_by_picks.ensures f) c.run_alone.ensures
