use Rattle.flow_instance.specs.Sending.{AreMarked}
use Rattle.flow_instance.proofs.sending.queue_end_marks.Given as goal

abbrev pub invariant-loop-to : goal.invariant-loop-to
invariant-loop-to l = AreMarked l.workers l.ship l.from l.to l.fn.queue.items l.queue.items
