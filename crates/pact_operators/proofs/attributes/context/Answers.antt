use Rattle.std.proofs.Common.{◌≡◌, ◌↔◌, ℕ, IsTrue, slice_get, rules}
use Rattle.pact_record.specs.FieldSets.{has_field}
use Rattle.plan_trees.specs.Plans.{subtree_of}
use Rattle.pact_operators.specs.PlanOps.{left_keys_in, right_keys_in}
use Rattle.pact_operators.specs.Programs.{HasLeftAttribute, HasRightAttribute}
use Rattle.pact_operators.proofs.PlanContexts.{IsContextOf-plan}
use Rattle.pact_operators.proofs.attributes.context.Goals as goal

pub returns-clause-below : goal.returns-clause-below
returns-clause-below c operator =
    let p = c.args.program.now in
    let tree = subtree_of c.args.at c.args.plan.now in
    let left : (k : ℕ) → IsTrue (has_field c.input_fields-left.result.0 k) ↔ HasLeftAttribute p.functions p.ops tree k = search rules in
    let right : (k : ℕ) → IsTrue (has_field c.input_fields-left.result.1 k) ↔ HasRightAttribute p.functions p.ops tree k = search rules in
    let left_keys : c.keys_of-left_keys.result.0 ≡ left_keys_in (slice_get p.ops c.args.at) = search rules in
    let right_keys : c.keys_of-left_keys.result.1 ≡ right_keys_in (slice_get p.ops c.args.at) = search rules in
    IsContextOf-plan p tree c.args.at _ c.functions-functions.ensures.keeps left right left_keys right_keys operator
