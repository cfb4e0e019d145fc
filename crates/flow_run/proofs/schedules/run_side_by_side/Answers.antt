use denote.Param.{param}
use denote.Param.Send.{IsSend, sendable}
use denote.Ref.{NamedLft}
use Rattle.flow_run.specs.contracts.schedules.Job as Job
use Rattle.flow_run.proofs.Sendable.{job_send}
use Rattle.flow_run.proofs.schedules.run_side_by_side.Goals as goal

pub for_each_mut-requires-send-T : goal.for_each_mut-requires-send-T
for_each_mut-requires-send-T g c κs within =
    let s : (κ : NamedLft) → IsSend (Job.the_row κ (param 0 g.row.L) (param 1 g.row.W) g.L.Local g.W.Width) = λ κ.
    job_send κ (param 0 g.row.L) (param 1 g.row.W) g.L.Local g.W.Width c.type_bounds.send-L in
    search (sendable, s) depth 20
