use Rattle.std.proofs.Common.{length, ap, refl, arith}
use Rattle.pact_operators.proofs.NumbersInPlans.{few_numbers}
use Rattle.prune_fields.proofs.PrunedSteps.{none_pruned}
use Rattle.prune_fields.proofs.pruning.all_pruned.Goals as goal

pub overflow_cast-at-end : goal.overflow_cast-at-end
overflow_cast-at-end c =
    let p = c.args.program.now in
    let few = few_numbers p.functions p.ops c.args.physical.now.tree c.requires.plan in
    let operators = c.requires.program.few_operators in
    let same = ap length c.ops.ensures.ops in
    omega (arith, few, operators, same)

pub loop-at-init : goal.loop-at-init
loop-at-init c =
    let x = c.args.physical.now in
    (none_pruned c.args.program.now c.in_ok-copy.field-0 x x c.new.result.items c.in_ok-copy.ensures refl c.new.ensures.items, tt)
