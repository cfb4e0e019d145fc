use Rattle.std.proofs.Common.{sym, ◌∙◌}
use Rattle.flow_instance.proofs.FreshInstances.{begun_last, begun_more}
use Rattle.flow_instance.proofs.OnOkTogether.{on_ok_two}
use Rattle.flow_instance.proofs.SmallBatches.{few_marked}
use Rattle.flow_instance.specs.States.{part_of}
use Rattle.std.proofs.lemmas.Result.{on_ok_weaker}
use Rattle.flow_instance.proofs.states.State.begin.Goals as goal

pub returns-then-not-all_ended-clause-begun : goal.returns-then-not-all_ended-clause-begun
returns-then-not-all_ended-clause-begun g c =
    begun_more g.L.Local.rows c.args.self.now c.give.new.self c.give.new.self c.args.rows c.requires.placed c.in_ok-give.ensures.same c.in_ok-give.ensures.counted c.in_ok-give.ensures.sent c.in_ok-give.ensures.orderly (sym c.all_ended.ensures ∙ c.if-not-all_ended.true)

pub returns-clause-begun : goal.returns-clause-begun
returns-clause-begun g c = on_ok_two c.mark.result (λ frame marked.
    begun_last g.L.Local.rows c.args.self.now c.give.new.self c.mark.new.self c.args.rows c.requires.placed c.in_ok-give.ensures.same c.in_ok-give.ensures.counted c.in_ok-give.ensures.sent c.in_ok-give.ensures.orderly
    (sym c.all_ended.ensures ∙ c.if-not-all_ended.false) frame marked)
    c.mark.ensures.same c.mark.ensures.marked

pub returns-clause-batches : goal.returns-clause-batches
returns-clause-batches g c =
    let s = c.args.self.now in
    on_ok_weaker c.mark.result (λ marked. few_marked s.part.batch (part_of c.give.new.self.part) c.give.new.self.queue.items c.mark.new.self.queue.items c.in_ok-give.ensures.batches marked) c.mark.ensures.marked
