use Rattle.std.proofs.Common.{◌∷◌, ◌++◌, [], arith, length-append, rules, subst, sym, ◌∙◌, List}
use Rattle.std.proofs.lemmas.Iterator.Adapters.{YieldsList-from_vec}
use Rattle.std.proofs.lemmas.Iterator.Consumers.{YieldsList-end, YieldsList-turn}
use Rattle.std.proofs.lemmas.List.{map-id}
use Rattle.pact_record.proofs.Lists.{AllByRecursion-get_or}
use Rattle.flow_instance.specs.declared.before_start.Unstarted.{Unstarted}
use Rattle.flow_instance.specs.Starting.{CanStart}
use Rattle.flow_core.specs.Starting.{StartFrom}
use Rattle.flow_core.proofs.StartedInstances.{start_from_more}
use Rattle.flow_core.proofs.starting.start_in_turn.Goals as goal

pub loop-unstarted-init : goal.loop-unstarted-init
loop-unstarted-init g c = (c.in_ok-held.ensures.len, search rules, subst (StartFrom []) (sym c.in_ok-held.ensures.items) tt)

pub start_from-requires-clause-may : goal.start_from-requires-clause-may
start_from-requires-clause-may g c =
    let gives = c.into_iter-unstarted-iterator.ensures.into_iter_gives in
    let own = c.args.own.held in
    let t = YieldsList-turn (YieldsList-from_vec {s = c.into_iter-unstarted-iterator.result} own.items gives.0 (gives.1 ∙ own.ok.0)) c.loop-unstarted.yielded c.loop-unstarted.unstarted-iterator c.loop-unstarted.yielded_by c.next.result
    c.next.new.self c.in-Some.unstarted c.in-Some.is c.next.ensures.steps in
    λ _ _. subst CanStart (sym t.1) (AllByRecursion-get_or CanStart own.items _ c.in-Some.unstarted t.0 c.requires.may)

pub push_reserved-requires : goal.push_reserved-requires
push_reserved-requires g c =
    let gives = c.into_iter-unstarted-iterator.ensures.into_iter_gives in
    let own = c.args.own.held in
    let t = YieldsList-turn (YieldsList-from_vec {s = c.into_iter-unstarted-iterator.result} own.items gives.0 (gives.1 ∙ own.ok.0)) c.loop-unstarted.yielded c.loop-unstarted.unstarted-iterator c.loop-unstarted.yielded_by c.next.result
    c.next.new.self c.in-Some.unstarted c.in-Some.is c.next.ensures.steps in
    omega (arith, t.0, c.loop-unstarted.invariant.0, c.loop-unstarted.invariant.1)

pub loop-unstarted-preserved : goal.loop-unstarted-preserved
loop-unstarted-preserved g c =
    let done = c.loop-unstarted.yielded in
    let i = c.loop-unstarted.invariant in
    let more = length-append done (c.in-Some.unstarted ∷ []) in (
      omega (arith, c.push_reserved.ensures.len, i.0, more),
      omega (arith, c.push_reserved.ensures.capacity, i.1),
      subst (StartFrom (done ++ c.in-Some.unstarted ∷ [])) (sym c.push_reserved.ensures.items) (start_from_more done c.in-Some.unstarted c.loop-unstarted.held.items _ i.2 c.in_ok-start_from.ensures.started),
    )

pub returns : goal.returns
returns g c =
    let gives = c.into_iter-unstarted-iterator.ensures.into_iter_gives in
    let own = c.args.own.held in
    let done = c.loop-unstarted.yielded in
    let all = YieldsList-end (YieldsList-from_vec {s = c.into_iter-unstarted-iterator.result} own.items gives.0 (gives.1 ∙ own.ok.0)) done c.loop-unstarted.unstarted-iterator c.loop-unstarted.yielded_by c.next.result c.next.new.self
    c.in-None.is c.next.ensures.steps in
    subst (λ (l : List Unstarted). StartFrom l c.loop-unstarted.held.items) (sym (map-id done) ∙ all.0) c.loop-unstarted.invariant.2
