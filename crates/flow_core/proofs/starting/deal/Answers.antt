use Rattle.std.proofs.lemmas.Result.{IfOk-weaker}
use Rattle.std.proofs.Common.{◌≡◌, ◌<◌, ◌%◌, ◌∷◌, [], ap, arith, length, length-append, ◌∙◌}
use Rattle.std.proofs.lemmas.Iterator.Adapters.{YieldsList-from_vec}
use Rattle.std.proofs.lemmas.Iterator.Consumers.{YieldsList-turn}
use Rattle.flow_instance.proofs.SplitRows.{more_wide}
use Rattle.flow_core.specs.Starting.{AreDealt}
use Rattle.flow_core.proofs.SharesOfRows.{dealt-more, dealt_to_one, share_is, share_width}
use Rattle.flow_core.proofs.starting.deal.Goals as goal

pub returns-then-workers-eq1 : goal.returns-then-workers-eq1
returns-then-workers-eq1 c =
    IfOk-weaker c.one_share.result _ (λ shares. AreDealt c.args.workers c.args.rows shares.items) (λ shares is. dealt_to_one c.args.workers c.args.rows shares.items c.if-workers-eq1.true is) c.one_share.ensures

pub push-requires : goal.push-requires
push-requires c =
    let gives = c.into_iter-row-iterator.ensures.into_iter_gives in
    let items = c.into_records-row-items in
    let t = YieldsList-turn (YieldsList-from_vec {s = c.into_iter-row-iterator.result} c.args.rows (gives.0 ∙ items.ensures) (gives.1 ∙ items.result.ok.0 ∙ ap length items.ensures)) c.loop-row.yielded c.loop-row.row-iterator c.loop-row.yielded_by
    c.next.result c.next.new.self c.in-Some.row c.in-Some.is c.next.ensures.steps in
    let i = c.loop-row.invariant in
    let to = c.loop-row.number % c.args.workers in
    let is = share_is c.args.workers to c.loop-row.yielded c.index_mut.result.now c.loop-row.shares.items (omega (arith, c.requires)) c.index_mut.ensures.value i.1 in
    share_width c.args.workers to c.loop-row.yielded c.args.rows c.index_mut.result.now c.in-Some.row c.loop-row.shares.items c.rows-same.ensures.one_width t is i.2

pub overflow_add-number : goal.overflow_add-number
overflow_add-number c =
    let gives = c.into_iter-row-iterator.ensures.into_iter_gives in
    let items = c.into_records-row-items in
    let t = YieldsList-turn (YieldsList-from_vec {s = c.into_iter-row-iterator.result} c.args.rows (gives.0 ∙ items.ensures) (gives.1 ∙ items.result.ok.0 ∙ ap length items.ensures)) c.loop-row.yielded c.loop-row.row-iterator c.loop-row.yielded_by
    c.next.result c.next.new.self c.in-Some.row c.in-Some.is c.next.ensures.steps in
    omega (arith, t.0, c.loop-row.invariant.0, c.len-count.ensures)

pub loop-row-preserved : goal.loop-row-preserved
loop-row-preserved c =
    let gives = c.into_iter-row-iterator.ensures.into_iter_gives in
    let items = c.into_records-row-items in
    let t = YieldsList-turn (YieldsList-from_vec {s = c.into_iter-row-iterator.result} c.args.rows (gives.0 ∙ items.ensures) (gives.1 ∙ items.result.ok.0 ∙ ap length items.ensures)) c.loop-row.yielded c.loop-row.row-iterator c.loop-row.yielded_by
    c.next.result c.next.new.self c.in-Some.row c.in-Some.is c.next.ensures.steps in
    let i = c.loop-row.invariant in
    let to = c.loop-row.number % c.args.workers in
    let less : to < c.args.workers = omega (arith, c.requires) in
    let here : to ≡ length c.loop-row.yielded % c.args.workers = ap (λ n. n % c.args.workers) i.0 in
    let is = share_is c.args.workers to c.loop-row.yielded c.index_mut.result.now c.loop-row.shares.items less c.index_mut.ensures.value i.1 in (
      omega (arith, i.0, length-append c.loop-row.yielded (c.in-Some.row ∷ [])),
      dealt-more c.args.workers to c.loop-row.yielded c.index_mut.result.now c.push.new.self c.in-Some.row c.loop-row.shares.items less is here c.in_ok-push.ensures.ok i.1,
      more_wide c.loop-row.yielded c.args.rows c.in-Some.row t i.2,
    )
