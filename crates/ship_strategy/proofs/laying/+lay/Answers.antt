use Rattle.plan_trees.proofs.RootParts.{is_both}
use Rattle.ship_strategy.specs.Views.{facts_in, ways_in, known_of}
use Rattle.ship_strategy.proofs.LaidSteps.{both_laid}
use Rattle.ship_strategy.proofs.laying.+lay.Goals as goal

pub returns-in-OverTwo-clause-laid : goal.returns-in-OverTwo-clause-laid
returns-in-OverTwo-clause-laid t c =
    let f = facts_in c.args.table.now in
    let w = ways_in c.args.ways.now in
    both_laid f w c.args.tree.now c.in-OverTwo.left c.in-OverTwo.right c.in-OverTwo.at (known_of c.at-x-in-OverTwo.result) c.at-way.result
    c.lay-left_below.result c.lay-right_below.result c.left_ship-on_left.result c.right_ship-on_right.result
    c.args.physical.now c.lay-left_below.new.physical c.lay-right_below.new.physical c.put-in-OverTwo.new.physical c.put-in-OverTwo-2.new.physical
    (is_both c.args.tree.now c.in-OverTwo.left c.in-OverTwo.right c.in-OverTwo.at c.in-OverTwo.ensures.parts)
    c.at-x-in-OverTwo.ensures c.at-way.ensures c.lay-left_below.ensures.placed c.lay-right_below.ensures.placed c.left_ship-on_left.ensures c.right_ship-on_right.ensures
    c.lay-left_below.ensures.laid c.lay-right_below.ensures.laid c.put-in-OverTwo.ensures.value c.put-in-OverTwo-2.ensures.value
