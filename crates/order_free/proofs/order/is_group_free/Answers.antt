use Rattle.std.proofs.Common.{◌∙◌, sym}
use Rattle.order_free.specs.Views.{registers_of}
use Rattle.order_free.proofs.OrderTest.{free-group}
use Rattle.order_free.proofs.order.is_group_free.Goals as goal

pub returns-then-not-has_first : goal.returns-then-not-has_first
returns-then-not-has_first c =
    free-group c.args.body.now (registers_of c.none.result) c.are_loops_free.result (sym c.has_first.ensures ∙ c.if-not-has_first.true) c.none.ensures c.are_loops_free.ensures
