use Rattle.std.proofs.Common.{◌≡◌, ◌+◌, [], ◌∷◌, ◌++◌, length, ap, sym, subst, ◌∙◌, arith, length-append}
use Rattle.std.proofs.lemmas.Iterator.Adapters.{YieldsList-from_vec}
use Rattle.std.proofs.lemmas.Iterator.Consumers.{YieldsList-turn, YieldsList-end}
use Rattle.flow_instance.proofs.CarriedBatches.{all_carried, held_width, next_width, one_more}
use Rattle.flow_instance.specs.Sending.{AreCarried, AreCarriedBut}
use Rattle.std.proofs.lemmas.List.{map-id}
use Rattle.std.proofs.lemmas.Result.{on_ok_weaker}
use Rattle.pact_operators.specs.Allowed.{Bag}
use Rattle.flow_instance.proofs.sending.cut.Goals as goal

pub push-requires : goal.push-requires
push-requires c =
    let gives = c.into_iter-row-iterator.ensures.into_iter_gives in
    let items = c.into_records-row-items in
    let t = YieldsList-turn (YieldsList-from_vec {s = c.into_iter-row-iterator.result} c.args.rows (gives.0 ∙ items.ensures) (gives.1 ∙ items.result.ok.0 ∙ ap length items.ensures)) c.loop-row.yielded c.loop-row.row-iterator c.loop-row.yielded_by c.next.result c.next.new.self c.in-Some.row c.in-Some.is c.next.ensures.steps in
    held_width c.args.to c.loop-row.yielded c.args.rows c.in-Some.row c.args.queue.now.items c.loop-row.queue.items c.loop-row.held c.rows-same.ensures.one_width t c.loop-row.invariant.0

pub overflow_sub-more : goal.overflow_sub-more
overflow_sub-more c =
    let gives = c.into_iter-row-iterator.ensures.into_iter_gives in
    let items = c.into_records-row-items in
    let t = YieldsList-turn (YieldsList-from_vec {s = c.into_iter-row-iterator.result} c.args.rows (gives.0 ∙ items.ensures) (gives.1 ∙ items.result.ok.0 ∙ ap length items.ensures)) c.loop-row.yielded c.loop-row.row-iterator c.loop-row.yielded_by c.next.result c.next.new.self c.in-Some.row c.in-Some.is c.next.ensures.steps in
    omega (arith, c.loop-row.invariant.2, t.0)

pub loop-row-preserved : goal.loop-row-preserved
loop-row-preserved c =
    let gives = c.into_iter-row-iterator.ensures.into_iter_gives in
    let items = c.into_records-row-items in
    let t = YieldsList-turn (YieldsList-from_vec {s = c.into_iter-row-iterator.result} c.args.rows (gives.0 ∙ items.ensures) (gives.1 ∙ items.result.ok.0 ∙ ap length items.ensures)) c.loop-row.yielded c.loop-row.row-iterator c.loop-row.yielded_by c.next.result c.next.new.self c.in-Some.row c.in-Some.is c.next.ensures.steps in
    let old = c.args.queue.now.items in
    let longer : length c.push.new.self ≡ length c.loop-row.held + 1 = ap length c.in_ok-push.ensures.ok ∙ length-append c.loop-row.held (c.in-Some.row ∷ []) in (
      λ fields wide. c.in_ok-queue_if_full.ensures.queued fields (c.loop-row.yielded ++ c.in-Some.row ∷ []) old
          (subst (λ (held : Bag). AreCarriedBut fields c.args.to (c.loop-row.yielded ++ c.in-Some.row ∷ []) old c.loop-row.queue.items held) (sym c.in_ok-push.ensures.ok)
          (one_more fields c.args.to c.loop-row.yielded c.in-Some.row old c.loop-row.queue.items c.loop-row.held (next_width fields c.loop-row.yielded c.args.rows c.in-Some.row wide t) (c.loop-row.invariant.0 fields wide))),
      c.in_ok-queue_if_full.ensures.few,
      omega (arith, c.loop-row.invariant.2, t.0, length-append c.loop-row.yielded (c.in-Some.row ∷ [])),
      λ few. c.in_ok-queue_if_full.ensures.batches c.args.batch (omega (arith, longer, c.loop-row.invariant.1)) (c.loop-row.invariant.3 few),
    )

pub returns-clause-carried : goal.returns-clause-carried
returns-clause-carried c =
    let gives = c.into_iter-row-iterator.ensures.into_iter_gives in
    let items = c.into_records-row-items in
    let all = YieldsList-end (YieldsList-from_vec {s = c.into_iter-row-iterator.result} c.args.rows (gives.0 ∙ items.ensures) (gives.1 ∙ items.result.ok.0 ∙ ap length items.ensures)) c.loop-row.yielded c.loop-row.row-iterator c.loop-row.yielded_by c.next.result c.next.new.self c.in-None.is c.next.ensures.steps in
    let old = c.args.queue.now.items in
    let done : c.loop-row.yielded ≡ c.args.rows = sym (map-id c.loop-row.yielded) ∙ all.0 in
    on_ok_weaker c.queue_batch.result (λ queued fields wide.
    subst (λ (rows : Bag). AreCarried fields c.args.to rows old c.queue_batch.new.queue.items) done
    (all_carried fields c.args.to c.loop-row.yielded old c.queue_batch.new.queue.items (queued fields c.loop-row.yielded old (c.loop-row.invariant.0 fields wide)))) c.queue_batch.ensures.queued

pub returns-clause-batches : goal.returns-clause-batches
returns-clause-batches c =
    on_ok_weaker c.queue_batch.result (λ batches few. batches c.args.batch (omega (arith, c.loop-row.invariant.1)) (c.loop-row.invariant.3 few)) c.queue_batch.ensures.batches
