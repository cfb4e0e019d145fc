use Rattle.std.proofs.Common.{length, ap, arith}
use Rattle.pact_operators.proofs.NumbersInPlans.{next_below}
use Rattle.prune_fields.proofs.keeping.keep_at.Goals as goal

pub overflow_cast-new : goal.overflow_cast-new
overflow_cast-new c =
    let p = c.args.program in
    let lt = next_below p.functions p.ops c.args.physical.tree c.requires.plan c.requires.room in
    let same = ap length c.ops.ensures.ops in
    omega (arith, lt, same)
