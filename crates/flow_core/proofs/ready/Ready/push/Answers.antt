use Rattle.std.proofs.Common.{sym, ◌∙◌}
use Rattle.flow_core.proofs.KeptMarks.{kept_push}
use Rattle.flow_core.proofs.ready.Ready.push.Goals as goal

pub invariant_of-self-then-not-mark : goal.invariant_of-self-then-not-mark
invariant_of-self-then-not-mark c = rw (c.push_reserved.ensures.items, c.mark.ensures.now, c.in_ok-reserve.ensures.items) (kept_push c.self.inside.stack.items c.self.inside.marks c.args.at c.args.worker c.self.invariant (sym c.mark.ensures.was ∙ c.if-not-mark.true))
