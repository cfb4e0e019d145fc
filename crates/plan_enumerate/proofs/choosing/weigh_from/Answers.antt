use Rattle.std.proofs.Common.{◌<◌, length, ◌∙◌, rules}
use Rattle.std.proofs.lemmas.Option.{slice_get-get_or}
use Rattle.ship_strategy.specs.Views.{ways_in}
use Rattle.plan_enumerate.proofs.WeighedRows.{set_weighed}
use Rattle.plan_enumerate.proofs.choosing.weigh_from.Goals as goal

pub loop-n-preserved : goal.loop-n-preserved
loop-n-preserved c = λ p counts f are.
    let fits : c.loop-n.n < length c.loop-n.weights = search rules in
    let inside : c.loop-n.n < length c.args.rows.now.held = search rules in
    set_weighed p counts f c.args.workers (ways_in c.args.ways.now) c.args.rows.now.held c.loop-n.weights c.loop-n.n c.index-rows-n.result c.row_weight.result fits
    (slice_get-get_or c.args.rows.now.held c.loop-n.n c.index-rows-n.result inside ∙ search rules) (c.loop-n.invariant p counts f are) (search rules)
