use Rattle.std.proofs.Common.{◌≤◌, ◌<◌, ℕ, sym, subst, ap, ◌∙◌}
use Rattle.ship_strategy.specs.Layouts.{layout_count, place_of}
use Rattle.ship_strategy.proofs.FewLayouts.{some_layout}
use Rattle.ship_strategy.proofs.PlacesOfChoices.{choices_back, place_below}
use Rattle.ship_strategy.proofs.all_layouts.layouts.Goals as goal

pub returns-clause-some : goal.returns-clause-some
returns-clause-some c = subst (λ (n : ℕ). 1 ≤ n) (sym c.count.ensures.value) (some_layout c.ops.result.now)

pub returns-clause-each : goal.returns-clause-each
returns-clause-each c cs are =
    let ops = c.args.program.now.ops in
    (subst (λ (n : ℕ). place_of ops cs < n) (sym (c.count.ensures.value ∙ ap layout_count c.ops.ensures.ops)) (place_below ops cs are), choices_back ops cs are)
