use Rattle.std.proofs.Common.{arith, ◌≡◌, ◌+◌, length, rules, subst, ◌∙◌, ap, ℕ}
use Rattle.flow_core.specs.Starting.{AreAllUnstarted}
use Rattle.flow_core.proofs.SharesOfRows.{has_taken, op_at, some_left}
use Rattle.flow_core.proofs.StartedInstances.{rows_more}
use Rattle.plan_trees.proofs.Ships.{below_limit}
use Rattle.flow_core.proofs.starting.all_unstarted.Goals as goal

pub own_rows-own-requires : goal.own_rows-own-requires
own_rows-own-requires c =
    let at = op_at c.args.program.now c.ops-ops.result.now c.loop-at.at c.index-ops-at.result c.ops-ops.ensures.ops c.loop-at-test.true c.index-ops-at.is in
    some_left c.args.program.now c.args.inputs c.loop-at.left c.loop-at.at c.index-ops-at.result c.requires.inputs at c.loop-at.invariant.0

pub overflow_cast-at : goal.overflow_cast-at
overflow_cast-at c =
    let at = op_at c.args.program.now c.ops-ops.result.now c.loop-at.at c.index-ops-at.result c.ops-ops.ensures.ops c.loop-at-test.true c.index-ops-at.is in
    let few = below_limit c.loop-at.at c.args.physical.now.tree c.workers-workers.ensures.physical.plan (c.requires.plan.all c.loop-at.at at.less) in
    search (rules, few)

pub unstarted_of-requires-clause-wide : goal.unstarted_of-requires-clause-wide
unstarted_of-requires-clause-wide c =
    let at = op_at c.args.program.now c.ops-ops.result.now c.loop-at.at c.index-ops-at.result c.ops-ops.ensures.ops c.loop-at-test.true c.index-ops-at.is in
    let taken = has_taken c.args.program.now c.args.inputs c.loop-at.left c.loop-at.at c.index-ops-at.result c.own_rows-own.result c.own_rows-own.new.left c.requires.inputs at c.loop-at.invariant.0 c.own_rows-own.ensures in
    taken.wide

pub unstarted_of-requires-clause-none : goal.unstarted_of-requires-clause-none
unstarted_of-requires-clause-none c =
    let at = op_at c.args.program.now c.ops-ops.result.now c.loop-at.at c.index-ops-at.result c.ops-ops.ensures.ops c.loop-at-test.true c.index-ops-at.is in
    let taken = has_taken c.args.program.now c.args.inputs c.loop-at.left c.loop-at.at c.index-ops-at.result c.own_rows-own.result c.own_rows-own.new.left c.requires.inputs at c.loop-at.invariant.0 c.own_rows-own.ensures in
    taken.none

pub unstarted_of-requires-clause-at : goal.unstarted_of-requires-clause-at
unstarted_of-requires-clause-at c =
    let at = op_at c.args.program.now c.ops-ops.result.now c.loop-at.at c.index-ops-at.result c.ops-ops.ensures.ops c.loop-at-test.true c.index-ops-at.is in
    at.less

pub loop-at-preserved : goal.loop-at-preserved
loop-at-preserved c =
    let at = op_at c.args.program.now c.ops-ops.result.now c.loop-at.at c.index-ops-at.result c.ops-ops.ensures.ops c.loop-at-test.true c.index-ops-at.is in
    let taken = has_taken c.args.program.now c.args.inputs c.loop-at.left c.loop-at.at c.index-ops-at.result c.own_rows-own.result c.own_rows-own.new.left c.requires.inputs at c.loop-at.invariant.0 c.own_rows-own.ensures in (
      taken.behind,
      c.push_reserved.ensures.len ∙ ap (λ k. k + 1) c.loop-at.invariant.1,
      omega (arith, c.push_reserved.ensures.capacity, c.loop-at.invariant.2),
      rows_more c.args.program.now c.args.physical.now c.args.inputs c.args.batch c.loop-at.at c.loop-at.all.items _ c.in_ok-unstarted.unstarted c.push_reserved.ensures.items c.loop-at.invariant.3
          (record { own = c.own_rows-own.result; own_are = taken.own_are; are = c.in_ok-unstarted.ensures }),
    )

pub bounds-ops-at : goal.bounds-ops-at
bounds-ops-at c = c.loop-at-test.true

pub push_reserved-requires : goal.push_reserved-requires
push_reserved-requires c = omega (arith, c.loop-at-test.true, c.loop-at.invariant.1, c.loop-at.invariant.2)

pub unstarted_of-requires-clause-plan : goal.unstarted_of-requires-clause-plan
unstarted_of-requires-clause-plan c = c.requires.plan

pub unstarted_of-requires-clause-batch : goal.unstarted_of-requires-clause-batch
unstarted_of-requires-clause-batch c = c.requires.batch.0

pub returns : goal.returns
returns c =
    let all : c.loop-at.at ≡ length c.ops-ops.result.now = omega (arith, c.loop-at-test.false, c.loop-at.auto.at-end) in
    subst (λ (n : ℕ). AreAllUnstarted c.args.program.now c.args.physical.now c.args.inputs c.args.batch n c.loop-at.all.items) (all ∙ ap length c.ops-ops.ensures.ops) c.loop-at.invariant.3
