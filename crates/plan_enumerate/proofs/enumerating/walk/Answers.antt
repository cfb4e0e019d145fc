use Rattle.std.proofs.Common.{◌+◌, ◌-◌, ◌<◌, subst, arith}
use Rattle.plan_enumerate.specs.Walks.{GoesTo}
use Rattle.plan_enumerate.proofs.ReachedPlans.{few_entries}
use Rattle.plan_enumerate.proofs.enumerating.walk.Goals as goal

pub returns-then-not-branch-clause-walked : goal.returns-then-not-branch-clause-walked
returns-then-not-branch-clause-walked c = subst (GoesTo c.args.program.now c.args.limit c.add_neighbours.new.entries (c.loop-from.from + 1) 0 0) c.if-not-branch.true c.in_ok-add_neighbours.ensures.walked

pub overflow_add-from : goal.overflow_add-from
overflow_add-from c =
    let few = few_entries c.args.program.now c.args.limit c.loop-from.entries c.requires.some c.loop-from.invariant.0.grows in
    let most = c.requires.few in
    let less = c.loop-from-test.true in
    let same = c.len.ensures in
    omega (arith, few, most, less, same)

pub loop-from-smaller : goal.loop-from-smaller
loop-from-smaller c =
    let few = few_entries c.args.program.now c.args.limit c.loop-from.entries c.requires.some c.loop-from.invariant.0.grows in
    let less = c.loop-from-test.true in
    let same = c.len.ensures in
    let smaller : c.args.limit - (c.loop-from.from + 1) < c.args.limit - c.loop-from.from = omega (arith, few, less, same) in
    smaller

pub loop-from-preserved : goal.loop-from-preserved
loop-from-preserved c =
    let within = c.in_ok-add_neighbours.ensures.within in
    (subst (GoesTo c.args.program.now c.args.limit c.add_neighbours.new.entries (c.loop-from.from + 1) 0 0) c.if-not-branch.false c.in_ok-add_neighbours.ensures.walked, omega (arith, within), c.in_ok-add_neighbours.ensures.findings)
