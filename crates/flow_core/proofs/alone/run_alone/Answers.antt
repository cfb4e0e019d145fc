use Rattle.std.proofs.Common.{subst}
use Rattle.std.proofs.lemmas.Result.{IfOk-weaker}
use Rattle.flow_core.specs.Outcomes.{IsEnded, IsRun}
use Rattle.flow_core.proofs.RunAlone.{ended_outcome}
use Rattle.flow_core.proofs.alone.run_alone.Goals as goal

pub returns : goal.returns
returns g c =
    let w = c.args.world in
    let v = c.run_to_end.new.world in
    let ended : IsEnded w v = subst (λ b. IsRun w b v) c.if-not-branch.false c.in_ok-run_to_end.ensures in
    IfOk-weaker c.finish.result _ _ (λ o l. ended_outcome w v o c.requires.is_physical ended l) c.finish.ensures
