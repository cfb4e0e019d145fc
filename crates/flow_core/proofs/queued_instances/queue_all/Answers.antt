use Rattle.std.proofs.Common.{arith, length, length-append, ◌∷◌, ◌++◌, [], ◌∙◌}
use Rattle.std.proofs.lemmas.Iterator.Adapters.{YieldsList-from_vec}
use Rattle.std.proofs.lemmas.Iterator.Consumers.{YieldsList-turn}
use Rattle.flow_core.proofs.LeftWorlds.{rows_more}
use Rattle.flow_core.proofs.queued_instances.queue_all.Goals as goal

pub loop-own-preserved : goal.loop-own-preserved
loop-own-preserved g c =
    let gives = c.into_iter-own-iterator.ensures.into_iter_gives in
    let rows = c.instances.inside.all in
    let done = c.loop-own.yielded in
    let t = YieldsList-turn (YieldsList-from_vec {s = c.into_iter-own-iterator.result} rows.items gives.0 (gives.1 ∙ rows.ok.0)) done c.loop-own.own-iterator c.loop-own.yielded_by c.next.result c.next.new.self c.in-Some.own c.in-Some.is
    c.next.ensures.steps in
    let i = c.loop-own.invariant in
    let more = length-append done (c.in-Some.own ∷ []) in (
      omega (arith, c.push_reserved.ensures.len, i.0, more),
      omega (arith, c.push_reserved.ensures.capacity, i.1),
      rows_more c.args.workers (length done) (length (done ++ c.in-Some.own ∷ [])) c.args.instances rows.items c.in-Some.own c.loop-own.all.items c.push_reserved.new.self.items _ c.instances.view_is t.0 t.1 more
          c.push_reserved.ensures.items i.2 c.in_ok-queue_each.ensures,
    )
