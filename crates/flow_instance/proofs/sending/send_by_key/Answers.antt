use Rattle.std.proofs.Common.{◌≡◌, ◌∷◌, ◌++◌, [], ap, subst, sym, ◌∙◌, arith, length, length-append, List, ℕ}
use Rattle.std.proofs.lemmas.Iterator.Adapters.{YieldsList-from_vec}
use Rattle.std.proofs.lemmas.Iterator.Consumers.{YieldsList-end, YieldsList-turn}
use Rattle.std.proofs.lemmas.List.{map-id}
use Rattle.std.proofs.lemmas.List.Elements.{recursion_from_All}
use Rattle.std.proofs.lemmas.Result.{on_ok_weaker}
use Rattle.pact_operators.specs.Allowed.{Bag}
use Rattle.pact_record.specs.Widths.{AreBelow}
use Rattle.pact_record.specs.declared.values.Value.{Value}
use Rattle.flow_instance.specs.Sending.{AreDivided}
use Rattle.flow_instance.proofs.CarriedBatches.{next_width}
use Rattle.flow_instance.proofs.NotesForReceivers.{none_few}
use Rattle.flow_instance.proofs.SplitRows.{held_long, held_wide, none_divided}
use Rattle.flow_instance.proofs.sending.send_by_key.Goals as goal

pub loop-row-init : goal.loop-row-init
loop-row-init c = (
  λ fields wide. none_divided fields c.args.workers c.args.from c.args.keys.now c.args.queue.now.items c.in_ok-held.held.items c.requires.none c.in_ok-held.ensures,
  omega (arith, c.len-more.ensures),
  none_few c.args.batch c.args.queue.now.items c.requires.none,
)

pub overflow_sub-more : goal.overflow_sub-more
overflow_sub-more c =
    let gives = c.into_iter-row-iterator.ensures.into_iter_gives in
    let items = c.into_records-row-items in
    let t = YieldsList-turn (YieldsList-from_vec {s = c.into_iter-row-iterator.result} c.args.rows (gives.0 ∙ items.ensures) (gives.1 ∙ items.result.ok.0 ∙ ap length items.ensures)) c.loop-row.yielded c.loop-row.row-iterator c.loop-row.yielded_by c.next.result c.next.new.self
    c.in-Some.row c.in-Some.is c.next.ensures.steps in
    omega (arith, c.loop-row.invariant.1, t.0)

pub hold_row-requires-clause-long : goal.hold_row-requires-clause-long
hold_row-requires-clause-long c = held_long c.rows-same.ensures.one_width c.loop-row.invariant.0

pub hold_row-requires-clause-wide : goal.hold_row-requires-clause-wide
hold_row-requires-clause-wide c =
    let gives = c.into_iter-row-iterator.ensures.into_iter_gives in
    let items = c.into_records-row-items in
    let t = YieldsList-turn (YieldsList-from_vec {s = c.into_iter-row-iterator.result} c.args.rows (gives.0 ∙ items.ensures) (gives.1 ∙ items.result.ok.0 ∙ ap length items.ensures)) c.loop-row.yielded c.loop-row.row-iterator c.loop-row.yielded_by c.next.result c.next.new.self
    c.in-Some.row c.in-Some.is c.next.ensures.steps in
    held_wide c.rows-same.ensures.one_width c.loop-row.invariant.0 c.in-Some.row t

pub hold_row-requires-clause-whole : goal.hold_row-requires-clause-whole
hold_row-requires-clause-whole c = λ are.
    let gives = c.into_iter-row-iterator.ensures.into_iter_gives in
    let items = c.into_records-row-items in
    let t = YieldsList-turn (YieldsList-from_vec {s = c.into_iter-row-iterator.result} c.args.rows (gives.0 ∙ items.ensures) (gives.1 ∙ items.result.ok.0 ∙ ap length items.ensures)) c.loop-row.yielded c.loop-row.row-iterator c.loop-row.yielded_by c.next.result c.next.new.self
    c.in-Some.row c.in-Some.is c.next.ensures.steps in
    let one = c.rows-same.ensures.one_width in
    let wide = recursion_from_All (λ (r : List Value). length r ≡ one.width) c.args.rows one.all in
    subst (λ (n : ℕ). AreBelow n c.args.keys.now) (sym (next_width one.width c.loop-row.yielded c.args.rows c.in-Some.row wide t)) (c.have_fields-are_whole.ensures.below are one.width wide)

pub loop-row-preserved : goal.loop-row-preserved
loop-row-preserved c =
    let gives = c.into_iter-row-iterator.ensures.into_iter_gives in
    let items = c.into_records-row-items in
    let t = YieldsList-turn (YieldsList-from_vec {s = c.into_iter-row-iterator.result} c.args.rows (gives.0 ∙ items.ensures) (gives.1 ∙ items.result.ok.0 ∙ ap length items.ensures)) c.loop-row.yielded c.loop-row.row-iterator c.loop-row.yielded_by c.next.result c.next.new.self
    c.in-Some.row c.in-Some.is c.next.ensures.steps in
    let step = c.in_ok-send_if_full.ensures in (
      λ fields wide. step.divided fields c.args.from c.args.keys.now (c.loop-row.yielded ++ c.in-Some.row ∷ [])
          (c.in_ok-to.ensures.divided fields c.args.from c.loop-row.yielded c.loop-row.queue.items (next_width fields c.loop-row.yielded c.args.rows c.in-Some.row wide t) (c.loop-row.invariant.0 fields wide)),
      omega (arith, c.loop-row.invariant.1, t.0, length-append c.loop-row.yielded (c.in-Some.row ∷ [])),
      step.batches c.loop-row.invariant.2,
    )

pub send_held-requires-clause-long : goal.send_held-requires-clause-long
send_held-requires-clause-long c = held_long c.rows-same.ensures.one_width c.loop-row.invariant.0

pub returns-clause-sent : goal.returns-clause-sent
returns-clause-sent c =
    let gives = c.into_iter-row-iterator.ensures.into_iter_gives in
    let items = c.into_records-row-items in
    let all = YieldsList-end (YieldsList-from_vec {s = c.into_iter-row-iterator.result} c.args.rows (gives.0 ∙ items.ensures) (gives.1 ∙ items.result.ok.0 ∙ ap length items.ensures)) c.loop-row.yielded c.loop-row.row-iterator c.loop-row.yielded_by c.next.result c.next.new.self c.in-None.is c.next.ensures.steps in
    let done : c.loop-row.yielded ≡ c.args.rows = sym (map-id c.loop-row.yielded) ∙ all.0 in
    on_ok_weaker c.send_held.result (λ sent fields wide.
    sent fields c.args.keys.now c.args.rows (subst (λ (rows : Bag). AreDivided fields c.args.workers c.args.keys.now c.args.from rows c.loop-row.queue.items c.loop-row.held.items) done (c.loop-row.invariant.0 fields wide))) c.send_held.ensures.sent

pub returns-clause-batches : goal.returns-clause-batches
returns-clause-batches c = on_ok_weaker c.send_held.result (λ few. few c.loop-row.invariant.2) c.send_held.ensures.batches
