use Rattle.ship_strategy.proofs.TestsOfKeys.{other_lists}
use Rattle.ship_strategy.proofs.placements.same_keys.Goals as goal

pub returns-then-len : goal.returns-then-len
returns-then-len c = other_lists c.args.one.now c.args.other.now c.len.result c.len-2.result c.len.ensures.len c.len-2.ensures.len c.if-len.true
