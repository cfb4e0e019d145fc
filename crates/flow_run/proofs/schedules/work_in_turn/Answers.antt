use Rattle.std.proofs.Common.{arith, length, ◌<◌, ◌≤◌, ◌∙◌}
use Rattle.std.proofs.lemmas.List.{get_or_default}
use Rattle.flow_run.proofs.WorkersInTurn.{all_have, next_ready, worked_more}
use Rattle.flow_run.proofs.schedules.work_in_turn.Goals as goal

pub work-requires-clause-ready : goal.work-requires-clause-ready
work-requires-clause-ready g c κs lives =
    let first = c.args.workers.items in
    let now = c.loop-at.workers.items in
    let n = c.loop-at.at in
    let w = c.index_mut.result.now in
    let less : n < length first = omega (arith, c.loop-at-test.true, c.args.workers.ok.0) in
    let within : n < length now = omega (arith, less, c.loop-at.invariant.long) in
    next_ready g.W.Width.fields c.args.pipes.now n first now c.loop-at.invariant w less (λ d. c.index_mut.ensures.value ∙ get_or_default now n w d within) c.requires.ready

pub loop-at-preserved : goal.loop-at-preserved
loop-at-preserved g c =
    let first = c.args.workers.items in
    let now = c.loop-at.workers.items in
    let n = c.loop-at.at in
    let w = c.index_mut.result.now in
    let less : n < length first = omega (arith, c.loop-at-test.true, c.args.workers.ok.0) in
    let within : n < length now = omega (arith, less, c.loop-at.invariant.long) in
    worked_more g.W.Width.fields c.args.pipes.now n first now c.loop-at.invariant w c.work.new.worker less (λ d. c.index_mut.ensures.value ∙ get_or_default now n w d within) c.in_ok-work.ensures

pub returns : goal.returns
returns g c =
    let all : length c.args.workers.items ≤ c.loop-at.at = omega (arith, c.loop-at-test.false, c.args.workers.ok.0) in
    all_have g.W.Width.fields c.args.pipes.now c.loop-at.at c.args.workers.items c.loop-at.workers.items c.loop-at.invariant all
