use Rattle.std.proofs.Common.{length}
use Rattle.std.proofs.lemmas.Result.{IfOk-weaker}
use Rattle.flow_core.proofs.StartedInstances.{all_started, can_start_all}
use Rattle.flow_core.proofs.starting.start_instances.Goals as goal

pub start_all-requires-clause-may : goal.start_all-requires-clause-may
start_all-requires-clause-may g c = λ _ _. can_start_all c.args.program.now c.args.physical.now c.args.inputs c.args.batch 0 c.in_ok-unstarted.unstarted.items c.in_ok-unstarted.ensures.each

pub returns : goal.returns
returns g c =
    let p = c.args.program.now in
    IfOk-weaker c.start_all.result _ _ (λ list. all_started p c.args.physical.now c.args.inputs c.args.batch (length p.ops) c.in_ok-unstarted.unstarted.items list c.in_ok-unstarted.ensures) c.start_all.ensures
