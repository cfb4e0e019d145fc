use Rattle.std.proofs.Common.{◌≤◌, sym, subst, ◌∙◌, List, length}
use Rattle.plan_trees.specs.Plans.{IsPlan, node_limit}
use Rattle.pact_operators.specs.declared.operators.Op.{Op}
use Rattle.pact_operators.specs.Programs.{IsPlanOf}
use Rattle.ship_strategy.specs.Layouts.{layout_of}
use Rattle.ship_strategy.proofs.DividedRuns.{layout_counted, layout_meets}
use Rattle.ship_strategy.proofs.DividedRunsExist.{divided_exists}
use Rattle.ship_strategy.proofs.PlacesOfChoices.{are_choices, place_back}
use Rattle.ship_strategy.proofs.ProgramLayouts.{few_ops, layout_tree, layout_legal, layout_ships}
use Rattle.ship_strategy.proofs.all_layouts.layout_known.Goals as goal

pub layout_in-requires-clause-few : goal.layout_in-requires-clause-few
layout_in-requires-clause-few c =
    subst (λ (x : List Op). length x ≤ node_limit) (sym c.ops.ensures.ops) (few_ops c.args.plan.now c.args.program.now.ops c.root-root.ensures.plan c.requires.of.all)

pub returns-clause-tree : goal.returns-clause-tree
returns-clause-tree c =
    layout_tree c.args.program.now c.args.plan.now c.args.number c.args.workers c.layout_in.result
    (c.layout_in.ensures ∙ λ i. layout_of (c.requires.table i) (c.ops.ensures.ops i) c.args.plan.now c.args.number c.args.workers)

pub returns-clause-legal : goal.returns-clause-legal
returns-clause-legal c =
    layout_legal c.args.program.now c.args.plan.now c.args.number c.args.workers c.layout_in.result c.root-root.ensures.plan c.requires.of
    (c.layout_in.ensures ∙ λ i. layout_of (c.requires.table i) (c.ops.ensures.ops i) c.args.plan.now c.args.number c.args.workers)

pub returns-clause-ships : goal.returns-clause-ships
returns-clause-ships c =
    layout_ships c.args.program.now c.args.plan.now c.args.number c.args.workers c.layout_in.result c.root-root.ensures.plan
    (c.layout_in.ensures ∙ λ i. layout_of (c.requires.table i) (c.ops.ensures.ops i) c.args.plan.now c.args.number c.args.workers)

pub returns-clause-meets : goal.returns-clause-meets
returns-clause-meets c inputs of_inputs =
    layout_meets c.args.program.now c.ops.ensures.keeps c.args.plan.now c.args.number c.args.workers c.layout_in.result c.root-root.ensures.plan c.requires.of c.requires.workers.0
    (c.layout_in.ensures ∙ λ i. layout_of (c.requires.table i) (c.ops.ensures.ops i) c.args.plan.now c.args.number c.args.workers) inputs of_inputs

pub returns-clause-counted : goal.returns-clause-counted
returns-clause-counted c inputs of_inputs =
    layout_counted c.args.program.now c.ops.ensures.keeps c.args.plan.now c.args.number c.args.workers c.layout_in.result c.root-root.ensures.plan c.requires.of c.requires.workers.0
    (c.layout_in.ensures ∙ λ i. layout_of (c.requires.table i) (c.ops.ensures.ops i) c.args.plan.now c.args.number c.args.workers) inputs of_inputs

pub returns-clause-runs : goal.returns-clause-runs
returns-clause-runs c inputs =
    let p = c.args.program.now in
    let same = layout_tree p c.args.plan.now c.args.number c.args.workers c.layout_in.result
    (c.layout_in.ensures ∙ λ i. layout_of (c.requires.table i) (c.ops.ensures.ops i) c.args.plan.now c.args.number c.args.workers) in
    divided_exists p inputs c.layout_in.result (subst IsPlan (sym same) c.root-root.ensures.plan) (subst (IsPlanOf p.functions p.ops) (sym same) c.requires.of)

pub returns-clause-place : goal.returns-clause-place
returns-clause-place c = (are_choices c.args.program.now.ops c.args.number, place_back c.args.program.now.ops c.args.number c.requires.number)
