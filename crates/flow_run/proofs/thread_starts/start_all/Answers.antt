use Rattle.std.proofs.Common.{◌∷◌, ◌++◌, [], arith, length, length-append, rules, subst, sym, ◌∙◌, List}
use Rattle.std.proofs.lemmas.Iterator.Adapters.{YieldsList-from_vec}
use Rattle.std.proofs.lemmas.Iterator.Consumers.{YieldsList-end, YieldsList-turn}
use Rattle.std.proofs.lemmas.List.{map-id}
use Rattle.pact_record.proofs.Lists.{AllByRecursion-get_or}
use Rattle.flow_core.specs.declared.starting.UnstartedInstances.{UnstartedInstances}
use Rattle.flow_core.specs.Starting.{CanStartEach, StartAllFrom}
use Rattle.flow_core.proofs.StartedInstances.{start_all_more}
use Rattle.flow_run.proofs.thread_starts.start_all.Goals as goal

pub loop-own-init : goal.loop-own-init
loop-own-init g c = (c.in_ok-all.ensures.len, search rules, subst (StartAllFrom []) (sym c.in_ok-all.ensures.items) tt)

pub start_op-requires-clause-may : goal.start_op-requires-clause-may
start_op-requires-clause-may g c =
    let gives = c.into_iter-own-iterator.ensures.into_iter_gives in
    let unstarted = c.args.unstarted in
    let t = YieldsList-turn (YieldsList-from_vec {s = c.into_iter-own-iterator.result} unstarted.items gives.0 (gives.1 ∙ unstarted.ok.0)) c.loop-own.yielded c.loop-own.own-iterator c.loop-own.yielded_by c.next.result c.next.new.self
    c.in-Some.own c.in-Some.is c.next.ensures.steps in
    λ _ _. subst CanStartEach (sym t.1) (AllByRecursion-get_or CanStartEach unstarted.items _ c.in-Some.own t.0 c.requires.may)

pub push_reserved-requires : goal.push_reserved-requires
push_reserved-requires g c =
    let gives = c.into_iter-own-iterator.ensures.into_iter_gives in
    let unstarted = c.args.unstarted in
    let t = YieldsList-turn (YieldsList-from_vec {s = c.into_iter-own-iterator.result} unstarted.items gives.0 (gives.1 ∙ unstarted.ok.0)) c.loop-own.yielded c.loop-own.own-iterator c.loop-own.yielded_by c.next.result c.next.new.self
    c.in-Some.own c.in-Some.is c.next.ensures.steps in
    omega (arith, t.0, c.loop-own.invariant.0, c.loop-own.invariant.1)

pub loop-own-preserved : goal.loop-own-preserved
loop-own-preserved g c =
    let done = c.loop-own.yielded in
    let i = c.loop-own.invariant in
    let more = length-append done (c.in-Some.own ∷ []) in (
      omega (arith, c.push_reserved.ensures.len, i.0, more),
      omega (arith, c.push_reserved.ensures.capacity, i.1),
      subst (StartAllFrom (done ++ c.in-Some.own ∷ [])) (sym c.push_reserved.ensures.items) (start_all_more done c.in-Some.own c.loop-own.all.items _ i.2 c.in_ok-start_op.ensures),
    )

pub returns : goal.returns
returns g c =
    let gives = c.into_iter-own-iterator.ensures.into_iter_gives in
    let unstarted = c.args.unstarted in
    let done = c.loop-own.yielded in
    let all = YieldsList-end (YieldsList-from_vec {s = c.into_iter-own-iterator.result} unstarted.items gives.0 (gives.1 ∙ unstarted.ok.0)) done c.loop-own.own-iterator c.loop-own.yielded_by c.next.result c.next.new.self c.in-None.is c.next.ensures.steps in
    subst (StartAllFrom unstarted.items) (sym c.from_vec.ensures) (subst (λ (l : List UnstartedInstances). StartAllFrom l c.loop-own.all.items) (sym (map-id done) ∙ all.0) c.loop-own.invariant.2)
