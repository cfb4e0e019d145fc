use Rattle.program_check.proofs.AttributesOfSides.{attributes_by, left_side, one_side, right_side}
use Rattle.program_check.proofs.attribute_tests.do_sides_lack_key.Goals as goal

pub returns-in-OverOne : goal.returns-in-OverOne
returns-in-OverOne c =
    let k = c.args.candidate.now in
    let own = attributes_by k.draft k.valids c.valids-valids.result.now c.args.ops.now c.in-OverOne.input c.attributes_of.result c.valids-valids.ensures c.requires.same c.attributes_of.ensures in
    one_side k.draft k.valids c.args.plan.now c.in-OverOne.input c.in-OverOne.at c.attributes_of.result c.parts.result c.args.left_keys.now c.args.right_keys.now c.is_some_absent.result
    c.parts.ensures.parts c.in-OverOne.is own c.is_some_absent.ensures

pub returns-then-is_some_absent : goal.returns-then-is_some_absent
returns-then-is_some_absent c =
    let k = c.args.candidate.now in
    let left = attributes_by k.draft k.valids c.valids-valids.result.now c.args.ops.now c.in-OverTwo.left c.attributes_of-in-OverTwo.result c.valids-valids.ensures c.requires.same c.attributes_of-in-OverTwo.ensures in
    let lacks = left_side k.draft k.valids c.args.plan.now c.in-OverTwo.left c.in-OverTwo.right c.in-OverTwo.at c.attributes_of-in-OverTwo.result c.parts.result c.args.left_keys.now c.args.right_keys.now
    c.is_some_absent-in-OverTwo.result c.parts.ensures.parts c.in-OverTwo.is left c.is_some_absent-in-OverTwo.ensures in
    (λ i. lacks i, λ l. c.if-is_some_absent.true)

pub returns-else-is_some_absent : goal.returns-else-is_some_absent
returns-else-is_some_absent c =
    let k = c.args.candidate.now in
    let left = attributes_by k.draft k.valids c.valids-valids.result.now c.args.ops.now c.in-OverTwo.left c.attributes_of-in-OverTwo.result c.valids-valids.ensures c.requires.same c.attributes_of-in-OverTwo.ensures in
    let right = attributes_by k.draft k.valids c.valids-valids.result.now c.args.ops.now c.in-OverTwo.right c.attributes_of-else-is_some_absent.result c.valids-valids.ensures c.requires.same
    c.attributes_of-else-is_some_absent.ensures in
    right_side k.draft k.valids c.args.plan.now c.in-OverTwo.left c.in-OverTwo.right c.in-OverTwo.at c.attributes_of-in-OverTwo.result c.attributes_of-else-is_some_absent.result c.parts.result
    c.args.left_keys.now c.args.right_keys.now c.is_some_absent-in-OverTwo.result c.is_some_absent-else-is_some_absent.result c.parts.ensures.parts c.in-OverTwo.is left right
    c.is_some_absent-in-OverTwo.ensures c.if-is_some_absent.false c.is_some_absent-else-is_some_absent.ensures
