use Rattle.order_free.proofs.RegisterSets.{no_least, empty-values, some-values}
use Rattle.order_free.proofs.registers.Registers.is_empty.Goals as goal

pub returns-then-is_none : goal.returns-then-is_none
returns-then-is_none c =
    let values = no_least c.least.result c.args.self.now.values c.is_none.result c.is_none.ensures c.least.ensures.least c.least.ensures.none in
    let records = no_least c.least-then-is_none.result c.args.self.now.records c.is_none-then-is_none.result c.is_none-then-is_none.ensures c.least-then-is_none.ensures.least c.least-then-is_none.ensures.none in
    empty-values c.args.self.now c.is_none-then-is_none.result (values.0 c.if-is_none.true) records

pub returns-else-is_none : goal.returns-else-is_none
returns-else-is_none c =
    some-values c.args.self.now c.is_none.result c.if-is_none.false (no_least c.least.result c.args.self.now.values c.is_none.result c.is_none.ensures c.least.ensures.least c.least.ensures.none)
