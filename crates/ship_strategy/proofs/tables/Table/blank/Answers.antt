use Rattle.ship_strategy.proofs.BlankTables.{blank_at}
use Rattle.ship_strategy.proofs.tables.Table.blank.Goals as goal

pub returns : goal.returns
returns c = λ i k. blank_at 33 c.nothing.result k c.nothing.ensures i
