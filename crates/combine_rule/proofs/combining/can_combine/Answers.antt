use Rattle.std.proofs.Common.{◌≡◌, ◌<◌, ◌↔◌, ◌∙◌, IsTrue, ℕ, List, get_or, length, slice_get, Some, sym, ap, rules, subst, true, arith}
use Rattle.std.proofs.lemmas.Bool.{both_ways}
use Rattle.std.proofs.lemmas.Option.{same_Some, slice_get-get_or}
use Rattle.pact_record.specs.FieldSets.{has_field}
use Rattle.plan_trees.specs.declared.physicals.Ship.TheVariants.{Forward, Partition}
use Rattle.plan_trees.specs.Physicals.{ship_at}
use Rattle.plan_trees.specs.Plans.{PlanTree, has, root_of, subtree_of}
use Rattle.tac_syntax.specs.declared.declarations.OpKind.TheVariants.{Reduce}
use Rattle.pact_operators.specs.declared.operators.Op.{Op}
use Rattle.pact_operators.specs.Programs.{HasLeftAttribute, is_operator_kind, times_of_kind}
use Rattle.combine_rule.proofs.CombinedReduces.{asked, found, input_there, may_be, not_source, reads_input, same_ship, ship_there}
use Rattle.combine_rule.proofs.combining.can_combine.Goals as goal

pub ship-requires : goal.ship-requires
ship-requires c =
    let p = c.args.program.now in
    let q = c.args.physical.now in
    let at = c.args.at in
    let input = c.in-OverOne.input in
    let there = c.requires.plan.all at c.requires.there in
    let reads = reads_input q.tree c.subtree.result at c.in-OverOne.at input there (c.subtree.ensures ∙ ap (subtree_of at) c.plan.ensures) (sym c.parts.ensures.parts ∙ c.in-OverOne.is) in
    subst (λ (n : ℕ). has n q.tree ≡ true) (sym c.root.ensures.root) (input_there q at input there reads)

pub returns-in_default-ship : goal.returns-in_default-ship
returns-in_default-ship c =
    let p = c.args.program.now in
    let q = c.args.physical.now in
    let at = c.args.at in
    let input = c.in-OverOne.input in
    let there = c.requires.plan.all at c.requires.there in
    let reads = reads_input q.tree c.subtree.result at c.in-OverOne.at input there (c.subtree.ensures ∙ ap (subtree_of at) c.plan.ensures) (sym c.parts.ensures.parts ∙ c.in-OverOne.is) in
    let shipped = c.ship.ensures.ship ∙ ap (ship_at q) c.root.ensures.root ∙ ship_there q at input there reads p.functions p.ops c.requires.plan in
    (λ e. absurd cc, λ k. absurd (c.in_default-ship.not-Some (get_or q.ships (root_of input) Forward) shipped))

pub returns-in_default-ship-2 : goal.returns-in_default-ship-2
returns-in_default-ship-2 c =
    let p = c.args.program.now in
    let q = c.args.physical.now in
    let at = c.args.at in
    let input = c.in-OverOne.input in
    let there = c.requires.plan.all at c.requires.there in
    let reads = reads_input q.tree c.subtree.result at c.in-OverOne.at input there (c.subtree.ensures ∙ ap (subtree_of at) c.plan.ensures) (sym c.parts.ensures.parts ∙ c.in-OverOne.is) in
    let shipped = c.ship.ensures.ship ∙ ap (ship_at q) c.root.ensures.root ∙ ship_there q at input there reads p.functions p.ops c.requires.plan in
    (λ e. absurd cc, λ k. absurd (c.in_default-ship-2.not-Partition k.fields (same_Some c.in-Some.ship (get_or q.ships (root_of input) Forward) (sym c.in-Some.is ∙ shipped) ∙ same_ship q at input there reads p k)))

pub returns-then-not-has_room : goal.returns-then-not-has_room
returns-then-not-has_room c =
    let full = c.if-not-has_room.true in
    (λ e. absurd cc, λ k. absurd (both_ways c.has_room.result full (c.has_room.ensures.1 (k.room, omega (arith, k.function_room)))))

pub function_at-requires : goal.function_at-requires
function_at-requires c =
    let p = c.args.program.now in
    let at = c.args.at in
    let o = c.index-ops-at.result in
    let inside = subst (λ (l : List Op). at < length l) (sym c.ops.ensures.ops) c.requires.there in
    let of_op : slice_get p.ops at ≡ Some o = ap (λ (l : List Op). slice_get l at) (sym c.ops.ensures.ops) ∙ slice_get-get_or c.ops.result.now at o inside ∙ ap (λ (x : Op). Some x) (sym c.index-ops-at.is) in
    let kind : o.kind ≡ Reduce = search rules in
    record { operator = not_source p.ops at o of_op kind }

pub returns : goal.returns
returns c =
    let p = c.args.program.now in
    let q = c.args.physical.now in
    let at = c.args.at in
    let input = c.in-OverOne.input in
    let there = c.requires.plan.all at c.requires.there in
    let reads = reads_input q.tree c.subtree.result at c.in-OverOne.at input there (c.subtree.ensures ∙ ap (subtree_of at) c.plan.ensures) (sym c.parts.ensures.parts ∙ c.in-OverOne.is) in
    let shipped = c.ship.ensures.ship ∙ ap (ship_at q) c.root.ensures.root ∙ ship_there q at input there reads p.functions p.ops c.requires.plan in
    let o = c.index-ops-at.result in
    let inside = subst (λ (l : List Op). at < length l) (sym c.ops.ensures.ops) c.requires.there in
    let of_op : slice_get p.ops at ≡ Some o = ap (λ (l : List Op). slice_get l at) (sym c.ops.ensures.ops) ∙ slice_get-get_or c.ops.result.now at o inside ∙ ap (λ (x : Op). Some x) (sym c.index-ops-at.is) in
    let kind : o.kind ≡ Reduce = search rules in
    let f = c.function_at.result.now in
    let set = has_field c.context-attributes.result.left in
    let of_set = subst (λ (t : PlanTree). (j : ℕ) → IsTrue (set j) ↔ HasLeftAttribute p.functions p.ops (subtree_of at t) j) c.plan-2.ensures c.context-attributes.ensures.left in
    let ship : get_or q.ships (root_of input) Forward ≡ Partition c.in-Partition.field-0 = sym (same_Some c.in-Some.ship (get_or q.ships (root_of input) Forward) (sym c.in-Some.is ∙ shipped)) ∙ c.in-Partition.is in
    let fits = c.has_room.ensures.0 c.if-not-has_room.false in
    let room : times_of_kind is_operator_kind p.ops < 16 = fits.0 in
    let function_room : length p.functions < 63 = omega (arith, fits.1) in (
      λ t. may_be p q at o input c.in-Partition.field-0 f set of_op kind there reads ship c.function_at.ensures.function c.function_at.ensures.fields of_set (c.combinable.ensures.0 t) room function_room,
      λ k. c.combinable.ensures.1 (asked p q at k f o.left_keys set (found p q at k f o set c.function_at.ensures.function c.function_at.ensures.fields of_op of_set)),
    )
