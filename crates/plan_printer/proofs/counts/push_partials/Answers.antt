use Rattle.plan_printer.proofs.PartialsLines.{next_partials}
use Rattle.plan_printer.proofs.counts.push_partials.Goals as goal

pub loop-pair-preserved : goal.loop-pair-preserved
loop-pair-preserved c =
    next_partials c.args.program.now c.args.counts.now c.args.pairs.now c.loop-pair.pair-index _ c.loop-pair.text c.push_partials_at.new.text _ c.loop-pair-test.true
    c.in_ok-push_partials_at.ensures c.loop-pair.invariant
