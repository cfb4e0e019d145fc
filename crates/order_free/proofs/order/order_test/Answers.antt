use Rattle.order_free.proofs.OrderTest.{valid_in_range, free-permutes}
use Rattle.order_free.proofs.order.order_test.Goals as goal

pub is_group_free-requires : goal.is_group_free-requires
is_group_free-requires c = valid_in_range c.args.f.now.function c.function-function.result.now c.args.f.now.fields c.function-function.ensures.function c.function-function.ensures.valid

pub returns-in-Reduce-clause-permutes : goal.returns-in-Reduce-clause-permutes
returns-in-Reduce-clause-permutes c passes =
    free-permutes c.args.f.now.function c.function-function.result.now c.args.f.now.fields c.function-function.ensures.function c.function-function.ensures.valid c.in-Reduce.is (c.is_group_free.ensures.0 passes)
