use Rattle.std.proofs.Common.{◌+◌, subst, sym, ◌∙◌, arith}
use Rattle.flow_run.specs.Tables.{IsShaped}
use Rattle.flow_run.specs.Wires.{AreWired, HaveNone, puts_in, takes_in}
use Rattle.flow_run.proofs.WorkerLists.{still_none}
use Rattle.flow_run.proofs.WiredPipes.{wired_first, wired_more, wired_skip, workers_of}
use Rattle.flow_run.proofs.wires.wire.Goals.{then-goes_along+in_ok-make, else-goes_along}
use Rattle.flow_run.proofs.wires.wire.Goals as goal

pub loop-number-init : goal.loop-number-init
loop-number-init g c =
    let same = c.workers-size.ensures.workers in
    let ws = c.in_ok-workers.workers.items in (
      wired_first c.args.physical.now c.workers-size.ensures.physical.few_workers c.args.count c.args.depth _ (puts_in ws) (takes_in ws) c.in_ok-pipes.ensures.blank c.in_ok-workers.ensures.puts c.in_ok-workers.ensures.takes
          (subst (λ w. IsShaped c.args.count w w c.in_ok-pipes.pipes) same c.in_ok-pipes.ensures.shape)
          (subst (λ w. IsShaped w c.args.count w (puts_in ws)) same c.in_ok-workers.ensures.put_places)
          (subst (λ w. IsShaped w c.args.count w (takes_in ws)) same c.in_ok-workers.ensures.take_places),
      subst (λ w. HaveNone w ws) same c.in_ok-workers.ensures.none,
    )

pub make-requires-clause-pipe_place : goal.make-requires-clause-pipe_place
make-requires-clause-pipe_place g c κs within =
    let id = c.pipe_of-id.result in
    let w = workers_of c.args.physical.now id.edge id.from id.to (sym c.goes_along.ensures ∙ c.if-goes_along.true) in
    c.loop-number.invariant.0.pipe_places id.edge id.from id.to (omega (arith, c.pipe_of-id.ensures.number, c.loop-number-test.true)) w.0 w.1

pub make-requires-clause-put_place : goal.make-requires-clause-put_place
make-requires-clause-put_place g c κs within =
    let id = c.pipe_of-id.result in
    let w = workers_of c.args.physical.now id.edge id.from id.to (sym c.goes_along.ensures ∙ c.if-goes_along.true) in
    c.loop-number.invariant.0.put_places id.from id.edge id.to w.0 (omega (arith, c.pipe_of-id.ensures.number, c.loop-number-test.true)) w.1

pub make-requires-clause-take_place : goal.make-requires-clause-take_place
make-requires-clause-take_place g c κs within =
    let id = c.pipe_of-id.result in
    let w = workers_of c.args.physical.now id.edge id.from id.to (sym c.goes_along.ensures ∙ c.if-goes_along.true) in
    c.loop-number.invariant.0.take_places id.to id.edge id.from w.1 (omega (arith, c.pipe_of-id.ensures.number, c.loop-number-test.true)) w.0

pub loop-number-preserved : goal.loop-number-preserved
loop-number-preserved g c =
    let p = c.args.physical.now in
    let few = c.workers-size.ensures.physical.few_workers in
    let id = c.pipe_of-id.result in
    let n = c.loop-number.number in
    let i = c.loop-number.invariant in
    let old = c.loop-number.network in
    let before = old.workers.items in
    elim c.if-goes_along.branch [
      | then-goes_along+in_ok-make w ↦
          let new = w.make.new.network in
          let after = new.workers.items in
          subst (λ v. AreWired p c.args.count c.args.depth (n + 1) v.pipes (puts_in v.workers.items) (takes_in v.workers.items) × HaveNone p.workers v.workers.items) (sym w.network-is) (
            wired_more p few c.args.count c.args.depth n id.edge id.from id.to old.pipes (puts_in before) (takes_in before) new.pipes (puts_in after) (takes_in after) (sym c.pipe_of-id.ensures.number) c.pipe_of-id.ensures.below.0 c.pipe_of-id.ensures.below.1
                (sym c.goes_along.ensures ∙ w.if-goes_along.true) i.0 w.in_ok-make.ensures.made
                (w.in_ok-make.ensures.pipe_places c.args.count p.workers p.workers i.0.pipe_places)
                (w.in_ok-make.ensures.put_places p.workers c.args.count p.workers i.0.put_places)
                (w.in_ok-make.ensures.take_places p.workers c.args.count p.workers i.0.take_places),
            still_none p.workers before after w.in_ok-make.ensures.kept i.1,
          )
      | else-goes_along w ↦
          subst (λ v. AreWired p c.args.count c.args.depth (n + 1) v.pipes (puts_in v.workers.items) (takes_in v.workers.items) × HaveNone p.workers v.workers.items) (sym w.network-is) (
            wired_skip p few c.args.count c.args.depth n id.edge id.from id.to old.pipes (puts_in before) (takes_in before) (sym c.pipe_of-id.ensures.number) c.pipe_of-id.ensures.below.0 c.pipe_of-id.ensures.below.1
                (sym c.goes_along.ensures ∙ w.if-goes_along.false) i.0,
            i.1,
          )
    ]
