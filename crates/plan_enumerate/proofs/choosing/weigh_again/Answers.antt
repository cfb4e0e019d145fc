use Rattle.ship_strategy.specs.Views.{ways_in}
use Rattle.plan_enumerate.proofs.WeighedRows.{weighed_before}
use Rattle.plan_enumerate.proofs.choosing.weigh_again.Goals as goal

pub returns : goal.returns
returns c = λ p counts f are.
    c.weigh_from.ensures p counts f
    (weighed_before p counts f c.args.workers (ways_in c.args.old.now) (ways_in c.args.new.now) c.args.rows.now.held c.args.weights.now c.args.rows.now.count c.first_changed-first.result are
    c.first_changed-first.ensures.within c.first_changed-first.ensures.same)
