use Rattle.std.proofs.Common.{ap, arith, refl, length, length-append, ◌∷◌, [], ◌++◌, ◌<◌, ◌≡◌, get_or, set, sym, ◌∙◌}
use Rattle.std.proofs.lemmas.Iterator.Adapters.{YieldsList-from_vec}
use Rattle.std.proofs.lemmas.Iterator.Consumers.{YieldsList-end, YieldsList-turn}
use Rattle.std.proofs.lemmas.List.{map-id}
use Rattle.flow_run.specs.WorkerData.{with_column}
use Rattle.flow_run.proofs.Arranged.{column_none, column_next, length_column}
use Rattle.flow_run.proofs.arranging.add_column.Goals as goal

pub loop-instance-init : goal.loop-instance-init
loop-instance-init g c = (refl, sym (column_none c.args.list.now))

pub push-requires-clause-at : goal.push-requires-clause-at
push-requires-clause-at g c =
    let gives = c.into_iter-instance-iterator.ensures.into_iter_gives in
    let t = YieldsList-turn (YieldsList-from_vec {s = c.into_iter-instance-iterator.result} c.args.own.items gives.0 (gives.1 ∙ c.args.own.ok.0)) c.loop-instance.yielded c.loop-instance.instance-iterator c.loop-instance.yielded_by c.next.result c.next.new.self
    c.in-Some.instance c.in-Some.is c.next.ensures.steps in
    let long = ap length c.loop-instance.invariant.1 ∙ length_column c.args.list.now c.loop-instance.yielded in
    λ _ _. omega (arith, t.0, long, c.requires, c.loop-instance.invariant.0)

pub overflow_add-at : goal.overflow_add-at
overflow_add-at g c =
    let gives = c.into_iter-instance-iterator.ensures.into_iter_gives in
    let t = YieldsList-turn (YieldsList-from_vec {s = c.into_iter-instance-iterator.result} c.args.own.items gives.0 (gives.1 ∙ c.args.own.ok.0)) c.loop-instance.yielded c.loop-instance.instance-iterator c.loop-instance.yielded_by c.next.result c.next.new.self
    c.in-Some.instance c.in-Some.is c.next.ensures.steps in
    omega (arith, t.0, c.args.own.ok.0, c.args.own.small, c.loop-instance.invariant.0)

pub loop-instance-preserved : goal.loop-instance-preserved
loop-instance-preserved g c =
    let gives = c.into_iter-instance-iterator.ensures.into_iter_gives in
    let t = YieldsList-turn (YieldsList-from_vec {s = c.into_iter-instance-iterator.result} c.args.own.items gives.0 (gives.1 ∙ c.args.own.ok.0)) c.loop-instance.yielded c.loop-instance.instance-iterator c.loop-instance.yielded_by c.next.result c.next.new.self
    c.in-Some.instance c.in-Some.is c.next.ensures.steps in
    let done = c.loop-instance.yielded in
    let i = c.in-Some.instance in
    let rows = c.args.list.now in
    let same : c.loop-instance.list ≡ with_column rows done = c.loop-instance.invariant.1 in
    let less : length done < length rows = omega (arith, t.0, c.requires) in (
      omega (arith, c.loop-instance.invariant.0, length-append done (i ∷ [])),
      c.in_ok-push.ensures.ok ∙ (λ x. set (same x) (c.loop-instance.invariant.0 x) (get_or (same x) (c.loop-instance.invariant.0 x) [] ++ i ∷ [])) ∙ column_next rows done i less,
    )

pub returns : goal.returns
returns g c =
    let gives = c.into_iter-instance-iterator.ensures.into_iter_gives in
    let all = YieldsList-end (YieldsList-from_vec {s = c.into_iter-instance-iterator.result} c.args.own.items gives.0 (gives.1 ∙ c.args.own.ok.0)) c.loop-instance.yielded c.loop-instance.instance-iterator c.loop-instance.yielded_by c.next.result c.next.new.self
    c.in-None.is c.next.ensures.steps in
    c.loop-instance.invariant.1 ∙ ap (with_column c.args.list.now) (sym (map-id c.loop-instance.yielded) ∙ all.0)
