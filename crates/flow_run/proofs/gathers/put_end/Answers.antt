use Rattle.std.proofs.Common.{arith, refl}
use Rattle.flow_run.specs.Workers.{data_of}
use Rattle.flow_run.proofs.EndsOut.{put_set}
use Rattle.flow_run.proofs.gathers.put_end.Goals as goal

pub returns-clause-out : goal.returns-clause-out
returns-clause-out g c =
    put_set data_of c.args.workers.now c.args.id.from _ c.index-workers-id.result (omega (arith, c.if-id-workers.false)) c.args.id.edge c.args.id.to c.take.ensures.changed refl refl
