use Rattle.program_check.proofs.AttributesOfSides.{attributes_by, shared_by}
use Rattle.program_check.proofs.attribute_tests.do_sides_share.Goals as goal

pub returns-in-OverTwo : goal.returns-in-OverTwo
returns-in-OverTwo c =
    let k = c.args.candidate.now in
    let left = attributes_by k.draft k.valids c.valids-valids.result.now c.args.ops.now c.in-OverTwo.left c.attributes_of-left.result c.valids-valids.ensures c.requires.same c.attributes_of-left.ensures in
    let right = attributes_by k.draft k.valids c.valids-valids.result.now c.args.ops.now c.in-OverTwo.right c.attributes_of-right.result c.valids-valids.ensures c.requires.same c.attributes_of-right.ensures in
    shared_by k.draft k.valids c.args.plan.now c.in-OverTwo.left c.in-OverTwo.right c.in-OverTwo.at c.attributes_of-left.result c.attributes_of-right.result c.meet.result c.parts.result c.least.result c.is_some.result
    c.parts.ensures.parts c.in-OverTwo.is left right c.meet.ensures c.least.ensures.least c.least.ensures.none c.is_some.ensures
