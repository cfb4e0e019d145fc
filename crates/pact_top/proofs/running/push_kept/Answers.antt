use Rattle.pact_top.proofs.KeptLines.{next_kept}
use Rattle.pact_top.proofs.running.push_kept.Goals as goal

pub loop-one-preserved : goal.loop-one-preserved
loop-one-preserved c =
    next_kept c.args.program.now c.args.kept.now c.loop-one.one-index c.one-item.result c.loop-one.text c.push_keeps.new.text _ c.loop-one-test.true c.one-item.is
    c.in_ok-push_keeps.ensures c.loop-one.invariant
