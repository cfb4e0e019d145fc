use Rattle.std.proofs.Common.{◌<◌, length, arith}
use Rattle.flow_instance.proofs.CarriedBatches.{queued_as_batch}
use Rattle.flow_instance.proofs.sending.queue_batch.Goals as goal

pub returns-clause-queued : goal.returns-clause-queued
returns-clause-queued c = λ fields done old h.
    let some : 0 < length c.args.rows = omega (arith, c.len.ensures, c.if-len-eq0.false) in
    queued_as_batch fields c.args.to done c.args.rows old c.args.queue.now.items c.push_back.new.self.items some c.in_ok-push_back.ensures.items h
