use Rattle.std.proofs.Common.{length, refl, ◌∙◌}
use Rattle.flow_run.specs.WorkerStates.{worker_state, nothing}
use Rattle.flow_run.proofs.ReadyWorkers.{stays_ready}
use Rattle.flow_run.proofs.Turning.{join_works}
use Rattle.flow_run.proofs.workers.turns.Goals as goal

pub loop-init : goal.loop-init
loop-init g c = (c.requires.ready, refl, nothing)

pub loop-preserved-then-is_progress : goal.loop-preserved-then-is_progress
loop-preserved-then-is_progress g c = (
  c.in_ok-attempt.ensures.ready,
  c.in_ok-attempt.ensures.count ∙ c.loop.invariant.1,
  join_works c.args.context.now.number (length c.args.instances.now) (length c.loop.instances) (worker_state c.args.instances.now c.args.puts.now c.args.takes.now) (worker_state c.loop.instances c.loop.puts c.loop.takes)
      (worker_state c.turn.new.instances c.turn.new.puts c.turn.new.takes) c.loop.invariant.1 c.loop.invariant.2 c.in_ok-attempt.ensures.works,
)

pub loop-preserved : goal.loop-preserved
loop-preserved g c = (
  c.in_ok-attempt.ensures.ready,
  c.in_ok-attempt.ensures.count ∙ c.loop.invariant.1,
  join_works c.args.context.now.number (length c.args.instances.now) (length c.loop.instances) (worker_state c.args.instances.now c.args.puts.now c.args.takes.now) (worker_state c.loop.instances c.loop.puts c.loop.takes)
      (worker_state c.turn.new.instances c.turn.new.puts c.turn.new.takes) c.loop.invariant.1 c.loop.invariant.2 c.in_ok-attempt.ensures.works,
)

pub returns-then-is_over-clause-works : goal.returns-then-is_over-clause-works
returns-then-is_over-clause-works g c =
    join_works c.args.context.now.number (length c.args.instances.now) (length c.loop.instances) (worker_state c.args.instances.now c.args.puts.now c.args.takes.now) (worker_state c.loop.instances c.loop.puts c.loop.takes)
    (worker_state c.turn.new.instances c.turn.new.puts c.turn.new.takes) c.loop.invariant.1 c.loop.invariant.2 c.in_ok-attempt.ensures.works

pub returns-then-is_over-clause-stays : goal.returns-then-is_over-clause-stays
returns-then-is_over-clause-stays g c =
    let ends = c.in_ok-attempt.ensures.ready.ready in
    stays_ready g.W.Width.fields c.args.context.now.number c.args.pipes.now c.args.instances.now c.turn.new.instances c.args.puts.now c.args.takes.now c.turn.new.puts c.turn.new.takes (returns-then-is_over-clause-works g c)
    (c.in_ok-attempt.ensures.count ∙ c.loop.invariant.1) ends.puts_are ends.takes_are
