use Rattle.std.proofs.Common.{◌≡◌, subst, arith}
use Rattle.plan_trees.specs.Plans.{node_limit}
use Rattle.ship_strategy.specs.PlanFacts.{facts_of}
use Rattle.ship_strategy.specs.Views.{facts_in}
use Rattle.plan_enumerate.proofs.AnalysedPlans.{IsFilledBelow, all_filled, nothing_filled, one_filled}
use Rattle.plan_enumerate.proofs.analysing.fill.Goals as goal

pub loop-at-init : goal.loop-at-init
loop-at-init c = (nothing_filled (facts_of c.args.program.now c.args.plan.now) (facts_in c.args.table.now) c.requires.blank, c.requires.findings)

pub loop-at-preserved : goal.loop-at-preserved
loop-at-preserved c =
    let new = c.in_ok-facts_by_number.ensures in
    (one_filled (facts_of c.args.program.now c.args.plan.now) c.loop-at.at _ (facts_in c.loop-at.table) (facts_in c.set.new.self) new.facts c.set.ensures c.loop-at.invariant.0, new.findings)

pub returns-clause-table : goal.returns-clause-table
returns-clause-table c =
    let low = c.loop-at-test.false in
    let high = c.loop-at.auto.at-end in
    let last : c.loop-at.at ≡ node_limit = omega (arith, low, high) in
    let f = facts_of c.args.program.now c.args.plan.now in
    all_filled c.args.program.now c.args.plan.now (facts_in c.loop-at.table) c.root-root.ensures.plan
    (subst (λ n. IsFilledBelow f n (facts_in c.loop-at.table)) last c.loop-at.invariant.0)
