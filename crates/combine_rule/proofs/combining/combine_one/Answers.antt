use Rattle.std.proofs.Common.{◌≡◌, ◌<◌, ◌↔◌, ◌∙◌, IsTrue, ℕ, List, get_or, length, slice_get, Some, sym, ap, subst, arith}
use Rattle.std.proofs.lemmas.Option.{slice_get-get_or}
use Rattle.pact_record.specs.FieldSets.{has_field}
use Rattle.plan_trees.specs.Plans.{PlanTree, input_of, subtree_of}
use Rattle.pact_operators.specs.declared.operators.Op.{Op}
use Rattle.pact_operators.specs.Programs.{HasLeftAttribute}
use Rattle.combine_rule.proofs.CombinedReduces.{asked, at_inside, combined_is, found, insert_asked, made, replace_asked, small}
use Rattle.combine_rule.proofs.combining.combine_one.Goals as goal

pub overflow_cast-new : goal.overflow_cast-new
overflow_cast-new c =
    let p = c.args.program in
    let q = c.args.physical in
    let at = c.args.at in
    let k = c.requires.combinable in
    let program = c.ops.ensures.keeps in
    let lt = small p q at k program c.requires.plan in
    let same = ap length c.ops.ensures.ops in
    omega (arith, lt, same)

pub bounds-ops-at : goal.bounds-ops-at
bounds-ops-at c =
    let p = c.args.program in
    let q = c.args.physical in
    let at = c.args.at in
    let k = c.requires.combinable in
    let program = c.ops.ensures.keeps in
    subst (λ (l : List Op). at < length l) (sym c.ops-2.ensures.ops) (at_inside p q at k program c.requires.plan)

pub bounds-ops-at-in-Some : goal.bounds-ops-at-in-Some
bounds-ops-at-in-Some c =
    let p = c.args.program in
    let q = c.args.physical in
    let at = c.args.at in
    let k = c.requires.combinable in
    let program = c.ops.ensures.keeps in
    subst (λ (l : List Op). at < length l) (sym c.ops-2.ensures.ops) (at_inside p q at k program c.requires.plan)

pub partial-requires : goal.partial-requires
partial-requires c =
    let p = c.args.program in
    let q = c.args.physical in
    let at = c.args.at in
    let k = c.requires.combinable in
    let program = c.ops.ensures.keeps in
    let o = get_or c.ops-2.result.now at c.index-ops-at.result in
    let inside = subst (λ (l : List Op). at < length l) (sym c.ops-2.ensures.ops) (at_inside p q at k program c.requires.plan) in
    let of_op : slice_get p.ops at ≡ Some o = ap (λ (l : List Op). slice_get l at) (sym c.ops-2.ensures.ops) ∙ slice_get-get_or c.ops-2.result.now at c.index-ops-at.result inside in
    let f = c.function_at.result.now in
    let set = has_field c.context-attributes.result.left in
    let of_set = subst (λ (t : PlanTree). (j : ℕ) → IsTrue (set j) ↔ HasLeftAttribute p.functions p.ops (subtree_of at t) j) c.plan-2.ensures c.context-attributes.ensures.left in
    let is = found p q at k f o set c.function_at.ensures.function c.function_at.ensures.fields of_op of_set in
    asked p q at k f o.left_keys set is

pub insert-requires : goal.insert-requires
insert-requires c =
    let p = c.args.program in
    let q = c.args.physical in
    let at = c.args.at in
    let k = c.requires.combinable in
    let program = c.ops.ensures.keeps in
    let o = get_or c.ops-2.result.now at c.index-ops-at.result in
    let inside = subst (λ (l : List Op). at < length l) (sym c.ops-2.ensures.ops) (at_inside p q at k program c.requires.plan) in
    let of_op : slice_get p.ops at ≡ Some o = ap (λ (l : List Op). slice_get l at) (sym c.ops-2.ensures.ops) ∙ slice_get-get_or c.ops-2.result.now at c.index-ops-at.result inside in
    let f = c.function_at.result.now in
    let set = has_field c.context-attributes.result.left in
    let of_set = subst (λ (t : PlanTree). (j : ℕ) → IsTrue (set j) ↔ HasLeftAttribute p.functions p.ops (subtree_of at t) j) c.plan-2.ensures c.context-attributes.ensures.left in
    let is = found p q at k f o set c.function_at.ensures.function c.function_at.ensures.fields of_op of_set in
    let new = length c.ops.result.now in
    let halves = c.in_ok-sender.field-0 in
    let below : input_of at 0 q.tree ≡ Some c.in-Some.below = ap (input_of at 0) (sym c.plan.ensures) ∙ sym c.input.ensures ∙ c.in-Some.is in
    let are = made p q at k program c.requires.plan c.in-Some.below new c.in_ok-op.op halves.sender halves.merger f o.left_keys set is c.in_ok-sender.ensures.halves below (ap length c.ops.ensures.ops) c.in_ok-op.ensures in
    insert_asked p q at k program c.requires.plan c.in-Some.below new c.in_ok-op.op halves.sender halves.merger are

pub replace-requires : goal.replace-requires
replace-requires c =
    let p = c.args.program in
    let q = c.args.physical in
    let at = c.args.at in
    let k = c.requires.combinable in
    let program = c.ops.ensures.keeps in
    let o = get_or c.ops-2.result.now at c.index-ops-at.result in
    let inside = subst (λ (l : List Op). at < length l) (sym c.ops-2.ensures.ops) (at_inside p q at k program c.requires.plan) in
    let of_op : slice_get p.ops at ≡ Some o = ap (λ (l : List Op). slice_get l at) (sym c.ops-2.ensures.ops) ∙ slice_get-get_or c.ops-2.result.now at c.index-ops-at.result inside in
    let f = c.function_at.result.now in
    let set = has_field c.context-attributes.result.left in
    let of_set = subst (λ (t : PlanTree). (j : ℕ) → IsTrue (set j) ↔ HasLeftAttribute p.functions p.ops (subtree_of at t) j) c.plan-2.ensures c.context-attributes.ensures.left in
    let is = found p q at k f o set c.function_at.ensures.function c.function_at.ensures.fields of_op of_set in
    let new = length c.ops.result.now in
    let halves = c.in_ok-sender.field-0 in
    let below : input_of at 0 q.tree ≡ Some c.in-Some.below = ap (input_of at 0) (sym c.plan.ensures) ∙ sym c.input.ensures ∙ c.in-Some.is in
    let are = made p q at k program c.requires.plan c.in-Some.below new c.in_ok-op.op halves.sender halves.merger f o.left_keys set is c.in_ok-sender.ensures.halves below (ap length c.ops.ensures.ops) c.in_ok-op.ensures in
    replace_asked p q at k program c.requires.plan c.in-Some.below new c.in_ok-op.op halves.sender halves.merger are c.in_ok-grown.grown c.in_ok-grown.ensures.program

pub returns : goal.returns
returns c =
    let p = c.args.program in
    let q = c.args.physical in
    let at = c.args.at in
    let k = c.requires.combinable in
    let program = c.ops.ensures.keeps in
    let o = get_or c.ops-2.result.now at c.index-ops-at.result in
    let inside = subst (λ (l : List Op). at < length l) (sym c.ops-2.ensures.ops) (at_inside p q at k program c.requires.plan) in
    let of_op : slice_get p.ops at ≡ Some o = ap (λ (l : List Op). slice_get l at) (sym c.ops-2.ensures.ops) ∙ slice_get-get_or c.ops-2.result.now at c.index-ops-at.result inside in
    let f = c.function_at.result.now in
    let set = has_field c.context-attributes.result.left in
    let of_set = subst (λ (t : PlanTree). (j : ℕ) → IsTrue (set j) ↔ HasLeftAttribute p.functions p.ops (subtree_of at t) j) c.plan-2.ensures c.context-attributes.ensures.left in
    let is = found p q at k f o set c.function_at.ensures.function c.function_at.ensures.fields of_op of_set in
    let new = length c.ops.result.now in
    let halves = c.in_ok-sender.field-0 in
    let below : input_of at 0 q.tree ≡ Some c.in-Some.below = ap (input_of at 0) (sym c.plan.ensures) ∙ sym c.input.ensures ∙ c.in-Some.is in
    let are = made p q at k program c.requires.plan c.in-Some.below new c.in_ok-op.op halves.sender halves.merger f o.left_keys set is c.in_ok-sender.ensures.halves below (ap length c.ops.ensures.ops) c.in_ok-op.ensures in (
      k,
      combined_is p q at k program c.requires.plan c.in-Some.below new c.in_ok-op.op halves.sender halves.merger are c.in_ok-grown.grown c.in_ok-changed.changed c.in_ok-grown.moved
          c.in_ok-grown.ensures.program c.in_ok-grown.ensures.physical c.in_ok-changed.ensures.value,
    )
