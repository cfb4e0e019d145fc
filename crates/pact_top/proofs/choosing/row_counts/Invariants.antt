use Rattle.pact_top.proofs.RowCounts.{AreCounted}
use Rattle.pact_top.proofs.choosing.row_counts.Given as goal

abbrev pub invariant-loop-op : goal.invariant-loop-op
invariant-loop-op l = AreCounted l.program.fields l.op-items l.inputs l.op-index l.source l.counts
