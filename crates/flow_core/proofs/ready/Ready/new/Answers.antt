use Rattle.flow_core.proofs.KeptMarks.{kept_empty}
use Rattle.flow_core.proofs.ready.Ready.new.Goals as goal

pub invariant_of-result : goal.invariant_of-result
invariant_of-result c at worker = rw c.new.ensures.items (kept_empty 33 16 at worker)
