use Rattle.std.proofs.Common.{sym, subst}
use Rattle.plan_trees.specs.Plans.{PlanTree}
use Rattle.ship_strategy.specs.Layouts.{layout_count}
use Rattle.plan_enumerate.specs.Choices.{layout_cost}
use Rattle.plan_enumerate.specs.Leasts.{IsLeastBelow}
use Rattle.plan_enumerate.proofs.LongerLists.{IsAt-entry}
use Rattle.plan_enumerate.proofs.PlansOfEntries.{plan_listed, plan_there}
use Rattle.plan_enumerate.proofs.choosing.cheapest_known.Goals as goal

pub cheapest-requires-clause-of : goal.cheapest-requires-clause-of
cheapest-requires-clause-of c = c.requires.of c.at-plan.result.plan (plan_listed c.args.entries.now c.args.entry c.at-plan.result c.at-plan.ensures)

pub returns : goal.returns
returns c =
    subst (λ (t : PlanTree). IsLeastBelow (layout_cost c.args.program.now c.args.counts.now c.args.workers t) (layout_count c.args.program.now.ops) c.cheapest.result.layout c.cheapest.result.cost)
    (sym (plan_there c.args.entries.now c.args.entry c.at-plan.result c.at-plan.ensures)) c.cheapest.ensures

pub cheapest-requires-clause-table : goal.cheapest-requires-clause-table
cheapest-requires-clause-table c =
    c.requires.known.facts c.args.entry c.at-plan.result.plan c.table.result.now (IsAt-entry c.args.entries.now c.args.entry c.at-plan.result c.at-plan.ensures) c.table.ensures
