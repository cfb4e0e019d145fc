use Rattle.flow_core.proofs.KeptMarks.{kept_pop}
use Rattle.flow_core.proofs.ready.Ready.pop.Goals as goal

pub invariant_of-self-2 : goal.invariant_of-self-2
invariant_of-self-2 c = rw c.mark.ensures.now (kept_pop c.self.inside.stack.items c.pop.new.self.items c.self.inside.marks c.in_ok-at.at c.in_ok-at.worker c.self.invariant c.in_ok-at.ensures.items)
