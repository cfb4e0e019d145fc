use Rattle.std.proofs.Common.{◌≡◌, ◌≤◌, ◌+◌, ◌-◌, ℕ, List, length, ap, sym, subst, ◌∙◌, arith}
use Rattle.pact_operators.specs.declared.operators.Op.{Op}
use Rattle.plan_trees.specs.Plans.{node_limit}
use Rattle.ship_strategy.specs.Facts.{Facts}
use Rattle.ship_strategy.proofs.ProgramLayouts.{few_ops}
use Rattle.ship_strategy.specs.Layouts.{layout_count, ways_of}
use Rattle.ship_strategy.specs.PlanFacts.{facts_of}
use Rattle.plan_enumerate.specs.Choices.{layout_cost}
use Rattle.plan_enumerate.specs.Leasts.{IsLeastBelow}
use Rattle.plan_enumerate.specs.RowsOfPlans.{Holds}
use Rattle.plan_enumerate.specs.Weights.{weighed}
use Rattle.plan_enumerate.proofs.WeighedLayouts.{layout_weighed}
use Rattle.plan_enumerate.proofs.choosing.cheapest.Goals as goal

pub cheapest_in-requires-clause-few : goal.cheapest_in-requires-clause-few
cheapest_in-requires-clause-few c =
    subst (λ (x : List Op). length x ≤ node_limit) (sym c.ops.ensures.ops) (few_ops c.args.plan.now c.args.program.now.ops c.root-root.ensures.plan c.requires.of.all)

pub returns : goal.returns
returns c =
    let p = c.args.program.now in
    let t = c.args.plan.now in
    let counts = c.args.counts.now in
    let rows = c.rows_of-rows.result in
    let some = c.rows_of-rows.ensures.some in
    let root = rows.count - 1 in
    let last : rows.count ≡ root + 1 = omega (arith, some) in
    let holds = subst (λ (f : Facts). Holds p counts f rows.held root t) c.requires.table (c.rows_of-rows.ensures.holds root last) in
    let least = c.cheapest_in.ensures p counts (facts_of p t) t root last holds in
    let same : (λ (k : ℕ). (weighed p counts c.args.workers (facts_of p t) (ways_of c.ops.result.now k) t).cost) ≡ layout_cost p counts c.args.workers t =
    (λ i k. (ap (λ (ops : List Op). (weighed p counts c.args.workers (facts_of p t) (ways_of ops k) t).cost) c.ops.ensures.ops ∙ sym (layout_weighed p counts c.args.workers t k c.root-root.ensures.plan)) i) in
    subst (λ (cost : ℕ → ℕ). IsLeastBelow cost (layout_count p.ops) c.cheapest_in.result.layout c.cheapest_in.result.cost) same
    (subst (λ (n : ℕ). IsLeastBelow (λ (k : ℕ). (weighed p counts c.args.workers (facts_of p t) (ways_of c.ops.result.now k) t).cost) n c.cheapest_in.result.layout c.cheapest_in.result.cost) c.layouts.ensures.value least)
