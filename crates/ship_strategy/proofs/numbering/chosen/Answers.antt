use Rattle.ship_strategy.specs.Views.{ways_in}
use Rattle.ship_strategy.proofs.ChosenWays.{ways_chosen}
use Rattle.ship_strategy.proofs.numbering.chosen.Goals as goal

pub returns : goal.returns
returns c = ways_chosen c.args.ops.now c.args.number (ways_in c.by_key-ways.result) (ways_in c.choose_from.new.ways) c.by_key-ways.ensures c.choose_from.ensures.ways
