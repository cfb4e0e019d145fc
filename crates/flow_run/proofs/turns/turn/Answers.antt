use Rattle.std.proofs.Common.{◌+◌, arith, refl}
use Rattle.flow_run.specs.WorkerStates.{nothing}
use Rattle.flow_run.proofs.Turning.{turn_more}
use Rattle.flow_run.proofs.turns.turn.Goals as goal

pub loop-at-init : goal.loop-at-init
loop-at-init g c = (c.requires.ready, refl, nothing, λ at less. absurd (omega (arith, less)))

pub loop-at-preserved : goal.loop-at-preserved
loop-at-preserved g c =
    let turned = turn_more c.args.pipes.now c.args.context.now.number g.W.Width.fields c.args.instances.now c.args.puts.now c.args.takes.now c.loop-at.instances c.loop-at.puts c.loop-at.takes
    c.step.new.instances c.step.new.puts c.step.new.takes c.loop-at.at (c.loop-at.at + 1) (omega arith) (omega (arith, c.loop-at-test.true)) c.in_ok-now.ensures.count c.in_ok-now.ensures.puts c.in_ok-now.ensures.takes
    c.loop-at.attempt c.in_ok-now.now c.loop-at.invariant c.in_ok-now.ensures.stepped in
    rw c.and-attempt.ensures turned
