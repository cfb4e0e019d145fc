use Rattle.std.proofs.Common.{length}
use Rattle.flow_core.proofs.alone.next_event.Given as goal

abbrev pub decreases-loop-at : goal.decreases-loop-at
decreases-loop-at g l = length l.ready.stack
