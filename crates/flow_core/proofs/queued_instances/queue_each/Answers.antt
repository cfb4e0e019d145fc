use Rattle.std.proofs.Common.{◌∷◌, ◌++◌, [], ap, arith, length, length-append, refl, rules, subst, sym, ◌∙◌, ℕ}
use Rattle.std.proofs.lemmas.Iterator.Adapters.{YieldsList-from_vec}
use Rattle.std.proofs.lemmas.Iterator.Consumers.{YieldsList-end, YieldsList-turn}
use Rattle.std.proofs.lemmas.List.{map-id}
use Rattle.flow_core.specs.Left.{AreEmptied}
use Rattle.flow_core.proofs.LeftWorlds.{emptied_more, emptied_none}
use Rattle.flow_core.proofs.queued_instances.queue_each.Goals as goal

pub loop-instance-init : goal.loop-instance-init
loop-instance-init g c = (c.in_ok-held.ensures.len, search rules, emptied_none c.args.workers c.args.own _ c.in_ok-held.ensures.items)

pub push_reserved-requires : goal.push_reserved-requires
push_reserved-requires g c =
    let gives = c.into_iter-instance-iterator.ensures.into_iter_gives in
    let own = c.own.inside.held in
    let t = YieldsList-turn (YieldsList-from_vec {s = c.into_iter-instance-iterator.result} own.items gives.0 (gives.1 ∙ own.ok.0)) c.loop-instance.yielded c.loop-instance.instance-iterator c.loop-instance.yielded_by c.next.result c.next.new.self
    c.in-Some.instance c.in-Some.is c.next.ensures.steps in
    let same = ap length c.own.view_is in
    omega (arith, t.0, same, c.loop-instance.invariant.0, c.loop-instance.invariant.1)

pub loop-instance-preserved : goal.loop-instance-preserved
loop-instance-preserved g c =
    let gives = c.into_iter-instance-iterator.ensures.into_iter_gives in
    let own = c.own.inside.held in
    let done = c.loop-instance.yielded in
    let t = YieldsList-turn (YieldsList-from_vec {s = c.into_iter-instance-iterator.result} own.items gives.0 (gives.1 ∙ own.ok.0)) done c.loop-instance.instance-iterator c.loop-instance.yielded_by c.next.result c.next.new.self
    c.in-Some.instance c.in-Some.is c.next.ensures.steps in
    let i = c.loop-instance.invariant in
    let more = length-append done (c.in-Some.instance ∷ []) in (
      omega (arith, c.push_reserved.ensures.len, i.0, more),
      omega (arith, c.push_reserved.ensures.capacity, i.1),
      emptied_more c.args.workers (length done) (length (done ++ c.in-Some.instance ∷ [])) c.args.own own.items c.in-Some.instance c.loop-instance.held.items c.push_reserved.new.self.items _ c.own.view_is t.0 t.1 more
          c.push_reserved.ensures.items i.2 refl c.in_ok-queues.ensures.long c.in_ok-queues.ensures.empty,
    )

pub returns : goal.returns
returns g c =
    let gives = c.into_iter-instance-iterator.ensures.into_iter_gives in
    let own = c.own.inside.held in
    let done = c.loop-instance.yielded in
    let all = YieldsList-end (YieldsList-from_vec {s = c.into_iter-instance-iterator.result} own.items gives.0 (gives.1 ∙ own.ok.0)) done c.loop-instance.instance-iterator c.loop-instance.yielded_by c.next.result c.next.new.self
    c.in-None.is c.next.ensures.steps in
    subst (λ (n : ℕ). AreEmptied c.args.workers n c.args.own c.loop-instance.held.items) (ap length (sym (map-id done) ∙ all.0 ∙ c.own.view_is)) c.loop-instance.invariant.2
