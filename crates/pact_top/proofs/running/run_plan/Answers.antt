use Rattle.std.proofs.Common.{ap, subst, sym, ◌∙◌}
use Rattle.plan_trees.specs.Physicals.{PhysicalData, forwarded}
use Rattle.plan_trees.specs.Plans.{PlanTree}
use Rattle.pact_operators.specs.Programs.{IsPlanOf}
use Rattle.ship_strategy.specs.Layouts.{ways_of}
use Rattle.ship_strategy.specs.PlanFacts.{facts_of}
use Rattle.ship_strategy.proofs.LaidSteps.{laid_workers}
use Rattle.pact_top.proofs.RunPlans.{is_outcome}
use Rattle.pact_top.proofs.running.run_plan.Goals as goal

pub run_rewritten-requires-clause-plan : goal.run_rewritten-requires-clause-plan
run_rewritten-requires-clause-plan g c =
    let p = c.args.program.now in
    subst (λ (t : PlanTree). IsPlanOf p.functions p.ops t) (sym c.layout_known-physical.ensures.tree) c.requires.plan

pub run_rewritten-requires-clause-workers : goal.run_rewritten-requires-clause-workers
run_rewritten-requires-clause-workers g c =
    let p = c.args.program.now in
    let plan = c.args.best.now.plan in
    sym (ap (λ (d : PhysicalData). d.workers) c.layout_known-physical.ensures.value ∙ laid_workers (facts_of p plan) (ways_of p.ops c.args.best.now.chosen.layout) plan (forwarded plan c.args.options.workers))

pub returns : goal.returns
returns g c =
    let options = c.args.options in
    let rewrites = c.args.rewrites in
    is_outcome (record { program = c.args.program.now; inputs = c.args.inputs }) options.workers c.args.best.now.plan c.args.best.now.chosen.layout rewrites.prune rewrites.combine c.layout_known-physical.result c.run_rewritten.result
    c.layout_known-physical.ensures.value c.layout_known-physical.ensures.tree c.requires.inputs c.requires.answers c.run_rewritten.ensures
