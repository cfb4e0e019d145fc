use Rattle.std.proofs.Common.{ap, arith, refl, length, length-append, ◌∷◌, [], ◌++◌, ◌<◌, get_or, set, sym, ◌∙◌}
use Rattle.std.proofs.lemmas.Iterator.Adapters.{YieldsList-from_vec}
use Rattle.std.proofs.lemmas.Iterator.Consumers.{YieldsList-end, YieldsList-turn}
use Rattle.std.proofs.lemmas.List.{map-id}
use Rattle.flow_run.specs.WorkerData.{with_column}
use Rattle.flow_run.specs.Wires.{instances_in}
use Rattle.flow_run.proofs.Arranged.{column_none, column_next}
use Rattle.flow_run.proofs.WorkerLists.{as_many_ends, as_many_instances, ends_both, keeps_ends, one_more}
use Rattle.flow_run.proofs.assigning.assign_op.Goals as goal

pub loop-instance-init : goal.loop-instance-init
loop-instance-init g c = (refl, sym (column_none (instances_in c.args.workers.now)), record { numbers = refl; puts = refl; takes = refl })

pub bounds-workers-at : goal.bounds-workers-at
bounds-workers-at g c =
    let gives = c.into_iter-instance-iterator.ensures.into_iter_gives in
    let t = YieldsList-turn (YieldsList-from_vec {s = c.into_iter-instance-iterator.result} c.args.own.items gives.0 (gives.1 ∙ c.args.own.ok.0)) c.loop-instance.yielded c.loop-instance.instance-iterator c.loop-instance.yielded_by c.next.result c.next.new.self
    c.in-Some.instance c.in-Some.is c.next.ensures.steps in
    let i = c.loop-instance.invariant in
    let long = as_many_ends c.args.workers.now c.loop-instance.workers i.2 in
    omega (arith, t.0, long, c.requires, i.0)

pub offset_bounds-workers-at : goal.offset_bounds-workers-at
offset_bounds-workers-at g c =
    let gives = c.into_iter-instance-iterator.ensures.into_iter_gives in
    let t = YieldsList-turn (YieldsList-from_vec {s = c.into_iter-instance-iterator.result} c.args.own.items gives.0 (gives.1 ∙ c.args.own.ok.0)) c.loop-instance.yielded c.loop-instance.instance-iterator c.loop-instance.yielded_by c.next.result c.next.new.self
    c.in-Some.instance c.in-Some.is c.next.ensures.steps in
    let i = c.loop-instance.invariant in
    omega (arith, t.0, c.args.own.ok.0, c.args.own.small, i.0)

pub loop-instance-preserved : goal.loop-instance-preserved
loop-instance-preserved g c =
    let gives = c.into_iter-instance-iterator.ensures.into_iter_gives in
    let t = YieldsList-turn (YieldsList-from_vec {s = c.into_iter-instance-iterator.result} c.args.own.items gives.0 (gives.1 ∙ c.args.own.ok.0)) c.loop-instance.yielded c.loop-instance.instance-iterator c.loop-instance.yielded_by c.next.result c.next.new.self
    c.in-Some.instance c.in-Some.is c.next.ensures.steps in
    let i = c.loop-instance.invariant in
    let done = c.loop-instance.yielded in
    let x = c.in-Some.instance in
    let ws = c.loop-instance.workers in
    let at = c.loop-instance.at in
    let d = c.index-workers-at.result in
    let long = as_many_ends c.args.workers.now ws i.2 in
    let less : at < length ws = omega (arith, t.0, long, c.requires, i.0) in
    let rows = instances_in c.args.workers.now in
    let as_long = as_many_instances c.args.workers.now in
    let below : length done < length rows = omega (arith, t.0, as_long, c.requires) in (
      omega (arith, i.0, length-append done (x ∷ [])),
      one_more ws at d _ x less c.in_ok-push.ensures.items ∙ (λ k. set (i.1 k) (i.0 k) (get_or (i.1 k) (i.0 k) [] ++ x ∷ [])) ∙ column_next rows done x below,
      ends_both c.args.workers.now ws _ i.2 (keeps_ends ws at d _ less refl refl refl),
    )

pub returns-clause-instances : goal.returns-clause-instances
returns-clause-instances g c =
    let gives = c.into_iter-instance-iterator.ensures.into_iter_gives in
    let all = YieldsList-end (YieldsList-from_vec {s = c.into_iter-instance-iterator.result} c.args.own.items gives.0 (gives.1 ∙ c.args.own.ok.0)) c.loop-instance.yielded c.loop-instance.instance-iterator c.loop-instance.yielded_by c.next.result c.next.new.self
    c.in-None.is c.next.ensures.steps in
    c.loop-instance.invariant.1 ∙ ap (with_column (instances_in c.args.workers.now)) (sym (map-id c.loop-instance.yielded) ∙ all.0)
