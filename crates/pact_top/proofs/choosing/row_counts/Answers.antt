use Rattle.pact_top.proofs.RowCounts.{one_counted, source_within}
use Rattle.pact_top.proofs.choosing.row_counts.Goals as goal

pub own_rows-rows-requires : goal.own_rows-rows-requires
own_rows-rows-requires c =
    source_within c.args.program.now.fields c.ops-op-items.result.now c.args.inputs.now c.loop-op.op-index c.loop-op.source c.loop-op.counts c.op-item.result c.loop-op-test.true c.op-item.is c.loop-op.invariant

pub loop-op-preserved : goal.loop-op-preserved
loop-op-preserved c =
    let next = one_counted c.args.program.now.fields c.ops-op-items.result.now c.args.inputs.now c.loop-op.op-index c.loop-op.source c.loop-op.counts c.op-item.result c.loop-op-test.true c.op-item.is c.loop-op.invariant
    c.own_rows-rows.result.0 c.own_rows-rows.result.1 c.own_rows-rows.ensures.rows c.own_rows-rows.ensures.next in
    rw c.in_ok-push_count.ensures next
