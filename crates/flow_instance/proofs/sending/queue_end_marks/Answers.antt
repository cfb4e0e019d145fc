use Rattle.flow_instance.proofs.NotesForReceivers.{none_marked}
use Rattle.flow_instance.proofs.sending.queue_end_marks.Goals as goal

pub loop-to-init : goal.loop-to-init
loop-to-init c = none_marked c.args.workers c.args.from c.args.ship.now c.args.queue.now.items
