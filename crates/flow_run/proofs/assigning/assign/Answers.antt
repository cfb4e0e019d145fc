use Rattle.std.proofs.Common.{◌≡◌, ◌≤◌, ◌<◌, ◌+◌, ◌*◌, ◌∙◌, true, rules, length, ap, arith, refl, subst, sym, ℕ}
use Rattle.flow_instance.proofs.PartsOfPlans.{number_below}
use Rattle.plan_trees.specs.Plans.{has}
use Rattle.flow_instance.specs.Spots.{setting}
use Rattle.flow_run.specs.Runs.{AreAssigned}
use Rattle.flow_run.specs.WorkerData.{with_column}
use Rattle.flow_run.specs.Wires.{AreWired, KeepEnds, instances_in, puts_in, takes_in}
use Rattle.flow_run.proofs.RunsOfWorkers.{are_assigned, at_start, few_numbers}
use Rattle.flow_run.proofs.WorkerLists.{AssignedSoFar, all_assigned, as_many_ends, assembled, assign_next, none_assigned, written}
use Rattle.flow_run.proofs.assigning.assign.Goals as goal

pub overflow_cast-ops : goal.overflow_cast-ops
overflow_cast-ops g c =
    let few = few_numbers c.args.physical.now (length c.args.program.now.ops) c.workers-workers.ensures.physical c.requires.plan.all in
    let same = ap length c.ops-ops.ensures.ops in
    let fact : length c.ops-ops.result.now ≤ 64 = omega (arith, few, same) in
    search (rules, fact)

pub wire-requires-clause-count : goal.wire-requires-clause-count
wire-requires-clause-count g c κs within =
    let few = few_numbers c.args.physical.now (length c.args.program.now.ops) c.workers-workers.ensures.physical c.requires.plan.all in
    let same = ap length c.ops-ops.ensures.ops in
    omega (arith, few, same)

pub wire-requires-clause-only : goal.wire-requires-clause-only
wire-requires-clause-only g c κs within at less = let same = ap length c.ops-ops.ensures.ops in c.requires.plan.all at (omega (arith, less, same))

pub loop-at-init : goal.loop-at-init
loop-at-init g c =
    let n = c.in_ok-network.network in
    let p = c.args.physical.now in
    let wired = subst (λ (n : ℕ). AreWired p n c.args.depth (256 * n) c.in_ok-network.network.pipes (puts_in c.in_ok-network.network.workers.items) (takes_in c.in_ok-network.network.workers.items)) (ap length c.ops-ops.ensures.ops) c.in_ok-network.ensures.wired in
    none_assigned p (length c.args.program.now.ops) c.args.depth c.args.list c.args.list n.pipes n.workers.items refl c.in_ok-network.ensures.none wired

pub assign_op-requires-after_bounds : goal.assign_op-requires-after_bounds
assign_op-requires-after_bounds g c κs within =
    let at = c.loop-at.at in
    let i = c.loop-at.invariant in
    let same = ap length c.ops-ops.ensures.ops in
    let less : at < length c.args.program.now.ops = omega (arith, same, c.loop-at-test.true) in
    ap length (c.take-own.ensures.taken ∙ i.still at (omega arith)) ∙ (c.requires.started.started.each at less).long ∙ sym i.long ∙ sym (ap length c.deref_mut.ensures.value)

pub loop-at-preserved : goal.loop-at-preserved
loop-at-preserved g c =
    let q = c.args.physical.now in
    let ops = length c.args.program.now.ops in
    let at = c.loop-at.at in
    let i = c.loop-at.invariant in
    let n = c.loop-at.network in
    let vec = n.workers in
    let new = c.assign_op.new.workers in
    let own = c.take-own.result.items in
    let first = c.deref_mut.ensures.value in
    let less : at < length c.args.list = let same = ap length c.ops-ops.ensures.ops in omega (arith, same, c.loop-at-test.true, c.requires.started.started.long) in
    let kept = subst (λ ws. KeepEnds ws new) first c.in_ok-assign_op.ensures.kept in
    let end = written vec.len new vec.items (as_many_ends vec.items new kept) (sym vec.ok.0) in
    subst (AssignedSoFar q ops c.args.depth c.args.list c.take-own.new.self (at + 1) n.pipes) (sym end)
    (assign_next q ops c.args.depth c.args.list c.loop-at.list c.take-own.new.self at n.pipes vec.items new own less c.take-own.ensures.taken c.take-own.ensures.left
    (c.in_ok-assign_op.ensures.instances ∙ ap (λ ws. with_column (instances_in ws) own) first) kept i)

pub returns : goal.returns
returns g c = λ inputs size started.
    let p = c.args.program.now in
    let q = c.args.physical.now in
    let s = setting p inputs q in
    let n = c.loop-at.network in
    let ws = n.workers.items in
    let i = c.loop-at.invariant in
    let only : (at : ℕ) → has at q.tree ≡ true → at < length p.ops = λ at there. number_below p.ops at q.tree there c.requires.plan.arity in
    let past : length c.args.list ≤ c.loop-at.at = let same = ap length c.ops-ops.ensures.ops in omega (arith, same, c.loop-at-test.false, started.long) in
    let start = at_start s size (length p.ops) c.args.list started only (instances_in ws) (all_assigned q (length p.ops) c.args.depth c.args.list c.loop-at.list c.loop-at.at n.pipes ws past i) in
    subst (λ (k : ℕ). AreAssigned s (length p.ops) k n.pipes ws) (sym c.requires.width)
    (are_assigned s (length p.ops) c.args.depth n.pipes (puts_in ws) (takes_in ws) (instances_in ws) c.workers-workers.ensures.physical c.requires.plan.all only c.requires.depth.1 start i.wired ws (assembled q.workers ws i.long i.numbered))
