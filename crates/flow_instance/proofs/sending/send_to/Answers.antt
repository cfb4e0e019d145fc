use Rattle.std.proofs.Common.{arith}
use Rattle.std.proofs.lemmas.Result.{on_ok_weaker}
use Rattle.flow_instance.proofs.CarriedBatches.{all_carried, all_held}
use Rattle.flow_instance.proofs.sending.send_to.Goals as goal

pub returns-clause-carried : goal.returns-clause-carried
returns-clause-carried c =
    let queue = c.args.queue.now.items in
    on_ok_weaker c.queue_batch.result (λ queued fields wide.
    all_carried fields c.args.to c.args.rows queue c.queue_batch.new.queue.items (queued fields c.args.rows queue (all_held fields c.args.to c.args.rows queue wide))) c.queue_batch.ensures.queued

pub returns-clause-batches : goal.returns-clause-batches
returns-clause-batches c =
    on_ok_weaker c.queue_batch.result (λ batches few. batches c.args.batch (omega (arith, c.len.ensures, c.if-len-batch.false)) few) c.queue_batch.ensures.batches
