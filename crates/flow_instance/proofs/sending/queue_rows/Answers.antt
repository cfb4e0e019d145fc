use Rattle.std.proofs.Common.{sym, subst}
use Rattle.std.proofs.lemmas.Result.{on_ok_weaker}
use Rattle.plan_trees.specs.declared.physicals.Ship.{Ship}
use Rattle.flow_instance.specs.Sending.{AreSent}
use Rattle.flow_instance.proofs.NotesForReceivers.{none_few, sent_forward, sent_to_only}
use Rattle.flow_instance.proofs.sending.queue_rows.Goals as goal

pub returns-in-Forward-clause-sent : goal.returns-in-Forward-clause-sent
returns-in-Forward-clause-sent c = on_ok_weaker c.send_to.result (λ h fields wide.
    subst (λ (s : Ship). AreSent fields c.args.workers s c.args.from c.args.rows c.send_to.new.queue.items) (sym c.in-Forward.is)
    (sent_forward fields c.args.workers c.args.from c.args.rows c.args.queue.now.items c.send_to.new.queue.items c.requires.below c.requires.none (h fields wide))) c.send_to.ensures.carried

pub returns-in-Partition-clause-sent : goal.returns-in-Partition-clause-sent
returns-in-Partition-clause-sent c = on_ok_weaker c.send_to-in-Partition.result (λ h fields wide.
    subst (λ (s : Ship). AreSent fields c.args.workers s c.args.from c.args.rows c.send_to-in-Partition.new.queue.items) (sym c.in-Partition.is)
    (sent_to_only fields c.args.workers c.args.from c.in-Partition.field-0 c.args.rows c.args.queue.now.items c.send_to-in-Partition.new.queue.items c.if-workers-eq1.true c.requires.below c.requires.none (h fields wide))) c.send_to-in-Partition.ensures.carried

pub returns-in-Partition-2-clause-sent : goal.returns-in-Partition-2-clause-sent
returns-in-Partition-2-clause-sent c = on_ok_weaker c.send_by_key.result (λ h fields wide.
    subst (λ (s : Ship). AreSent fields c.args.workers s c.args.from c.args.rows c.send_by_key.new.queue.items) (sym c.in-Partition-2.is) (h fields wide)) c.send_by_key.ensures.sent

pub returns-in-Forward-clause-batches : goal.returns-in-Forward-clause-batches
returns-in-Forward-clause-batches c = on_ok_weaker c.send_to.result (λ h. h (none_few c.args.batch c.args.queue.now.items c.requires.none)) c.send_to.ensures.batches

pub returns-in-Partition-clause-batches : goal.returns-in-Partition-clause-batches
returns-in-Partition-clause-batches c = on_ok_weaker c.send_to-in-Partition.result (λ h. h (none_few c.args.batch c.args.queue.now.items c.requires.none)) c.send_to-in-Partition.ensures.batches
