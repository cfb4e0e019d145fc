use Rattle.std.proofs.Common.{◌<◌, ap, arith, length}
use Rattle.plan_trees.specs.Plans.{node_limit}
use Rattle.plan_trees.proofs.Ships.{below_limit}
use Rattle.plan_printer.proofs.counts.counts_text.Goals as goal

pub overflow_cast-n : goal.overflow_cast-n
overflow_cast-n c =
    let n = c.loop-n.n in
    let among : n < length c.args.program.now.ops = omega (arith, c.loop-n-test.true, ap length c.ops-op-items.ensures.ops) in
    let small : n < node_limit = below_limit n c.args.plan.now c.root-root.ensures.plan (c.requires.plan.all n among) in
    omega (arith, small)
