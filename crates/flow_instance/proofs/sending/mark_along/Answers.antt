use Rattle.std.proofs.Common.{sym, ◌∙◌}
use Rattle.flow_instance.proofs.NotesForReceivers.{marked_none, marked_one}
use Rattle.flow_instance.proofs.sending.mark_along.Goals as goal

pub returns-in_ok-push_back : goal.returns-in_ok-push_back
returns-in_ok-push_back c = λ workers old below h.
    marked_one workers c.args.from c.args.to c.args.ship.now old c.args.queue.now.items c.push_back.new.self.items c.in_ok-push_back.ensures.items below (sym c.has_pipe.ensures ∙ c.if-has_pipe.true) h

pub returns-else-has_pipe : goal.returns-else-has_pipe
returns-else-has_pipe c = λ workers old below h. marked_none workers c.args.from c.args.to c.args.ship.now old c.args.queue.now.items (sym c.has_pipe.ensures ∙ c.if-has_pipe.false) h
