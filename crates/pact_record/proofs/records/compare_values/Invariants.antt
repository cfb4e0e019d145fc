use Rattle.std.proofs.Common.{◌-◌, length}
use Rattle.pact_record.proofs.SameBefore.{SameBefore}
use Rattle.pact_record.proofs.records.compare_values.Given as goal

abbrev pub invariant-loop-at : goal.invariant-loop-at
invariant-loop-at l = SameBefore l.left l.right l.at

abbrev pub decreases-loop-at : goal.decreases-loop-at
decreases-loop-at l = length l.left - l.at
