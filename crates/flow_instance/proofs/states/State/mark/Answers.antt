use Rattle.std.proofs.lemmas.Result.{on_ok_weaker}
use Rattle.flow_instance.specs.States.{part_of}
use Rattle.flow_instance.proofs.RowsSentOrPlaced.{marked_none, marked_some}
use Rattle.flow_instance.proofs.states.State.mark.Goals as goal

pub returns-clause-marked : goal.returns-clause-marked
returns-clause-marked g c =
    let s = c.args.self.now in
    on_ok_weaker c.queue_end_marks.result (marked_some (part_of s.part) c.in-Some.ship s.queue.items c.queue_end_marks.new.queue.items c.in-Some.is) c.queue_end_marks.ensures

pub returns-in_default-clause-marked : goal.returns-in_default-clause-marked
returns-in_default-clause-marked g c = marked_none (part_of c.args.self.now.part) c.args.self.now.queue.items c.in_default.is
