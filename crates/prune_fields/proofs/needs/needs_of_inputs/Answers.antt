use Rattle.ship_strategy.specs.PlanFacts.{left_attribute, right_attribute}
use Rattle.prune_fields.proofs.NeedsFound.{root_found}
use Rattle.prune_fields.proofs.needs.needs_of_inputs.Goals as goal

pub returns-clause-left : goal.returns-clause-left
returns-clause-left c =
    let p = c.args.program.now in
    let t = c.args.tree.now in
    let x = c.context-inputs.result in
    let of = c.context-inputs.ensures in
    root_found p t c.fields-fields.ensures.keeps c.function_at.result.now c.root-at.result x c.sets-found.result c.args.above c.minus.result
    c.union-wanted.result x.left c.meet.result (left_attribute p t) c.root-at.ensures.root c.requires.operator
    c.function_at.ensures.function of.left_keys of.right_keys c.sets-found.ensures.sets of.left of.right (λ l r. l) c.minus.ensures c.union-wanted.ensures c.meet.ensures

pub returns-clause-right : goal.returns-clause-right
returns-clause-right c =
    let p = c.args.program.now in
    let t = c.args.tree.now in
    let x = c.context-inputs.result in
    let of = c.context-inputs.ensures in
    root_found p t c.fields-fields.ensures.keeps c.function_at.result.now c.root-at.result x c.sets-found.result c.args.above c.minus.result
    c.union-wanted.result x.right c.meet-2.result (right_attribute p t) c.root-at.ensures.root c.requires.operator
    c.function_at.ensures.function of.left_keys of.right_keys c.sets-found.ensures.sets of.left of.right (λ l r. r) c.minus.ensures c.union-wanted.ensures c.meet-2.ensures
