use Rattle.std.proofs.Common.{length, ◌-◌}
use Rattle.pact_top.proofs.WrittenParts.{IsWriting}
use Rattle.pact_top.proofs.writing.write_all.Given as goal

abbrev pub invariant-loop-at : goal.invariant-loop-at
invariant-loop-at g l = IsWriting (g.S.Sink.taken l.fn.sink) (g.S.Sink.taken l.sink) l.bytes l.at (g.S.Sink.faults l.fn.sink) (g.S.Sink.faults l.sink)

abbrev pub decreases-loop-at : goal.decreases-loop-at
decreases-loop-at g l = length l.bytes - l.at
