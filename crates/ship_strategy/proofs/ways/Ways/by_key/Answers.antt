use Rattle.plan_trees.proofs.Ships.{get_or_blank}
use Rattle.ship_strategy.specs.declared.ways.Way.TheVariants.{ByKey}
use Rattle.ship_strategy.proofs.ways.Ways.by_key.Goals as goal

pub returns : goal.returns
returns c k = get_or_blank 33 k ByKey
