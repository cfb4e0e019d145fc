use Rattle.std.proofs.Common.{arith, refl}
use Rattle.flow_run.specs.Workers.{data_of}
use Rattle.flow_run.proofs.EndsOut.{take_set}
use Rattle.flow_run.proofs.gathers.take_end.Goals as goal

pub returns-clause-out : goal.returns-clause-out
returns-clause-out g c =
    take_set data_of c.args.workers.now c.args.id.to _ c.index-workers-id.result (omega (arith, c.if-id-workers.false)) c.args.id.edge c.args.id.from c.take.ensures.changed refl refl
