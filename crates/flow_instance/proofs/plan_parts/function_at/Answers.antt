use Rattle.std.proofs.Common.{rules}
use Rattle.flow_instance.proofs.PartsOfPlans.{function_of}
use Rattle.flow_instance.proofs.plan_parts.function_at.Goals as goal

pub returns : goal.returns
returns c = function_of c.args.program.now c.args.at c.ops.result.now c.functions.result.now c.index-ops-at.result c.index-functions-op.result c.in_ok-copy.field-0 c.ops.ensures.keeps c.ops.ensures.ops c.functions.ensures.functions c.requires c.index-ops-at.is
    (λ source. search rules) c.index-functions-op.is c.in_ok-copy.ensures
