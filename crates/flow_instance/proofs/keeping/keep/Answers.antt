use Rattle.std.proofs.Common.{ℕ, length, ap, sym, subst, ◌∙◌}
use Rattle.std.specs.Prelude.{filter}
use Rattle.std.proofs.lemmas.Iterator.Adapters.{YieldsList-from_vec}
use Rattle.std.proofs.lemmas.Iterator.Consumers.{YieldsList-end, YieldsList-turn}
use Rattle.std.proofs.lemmas.List.{map-id}
use Rattle.pact_operators.specs.Allowed.{Bag}
use Rattle.pact_record.specs.Widths.{AreBelow, AreWide}
use Rattle.flow_instance.proofs.CarriedBatches.{next_width}
use Rattle.flow_instance.specs.Keeping.{IsKept, may_match}
use Rattle.flow_instance.proofs.KeptRecords.{none_kept, row_kept}
use Rattle.flow_instance.proofs.keeping.keep.Goals as goal

pub loop-row-init : goal.loop-row-init
loop-row-init g c = none_kept g.L.Local.rows g.L.Local.key_fields g.L.Local.is_sealed c.args.fields c.args.kept.now c.requires.not_sealed c.requires.wide

pub keep_row-requires-clause-width : goal.keep_row-requires-clause-width
keep_row-requires-clause-width g c κs lives =
    let gives = c.into_iter-row-iterator.ensures.into_iter_gives in
    let items = c.into_records-row-items in
    let t = YieldsList-turn (YieldsList-from_vec {s = c.into_iter-row-iterator.result} c.args.rows (gives.0 ∙ items.ensures) (gives.1 ∙ items.result.ok.0 ∙ ap length items.ensures)) c.loop-row.yielded c.loop-row.row-iterator c.loop-row.yielded_by c.next.result c.next.new.self
    c.in-Some.row c.in-Some.is c.next.ensures.steps in
    subst (λ (n : ℕ). AreWide n (g.L.Local.rows c.loop-row.kept)) (sym (next_width c.args.fields c.loop-row.yielded c.args.rows c.in-Some.row c.requires.rows_wide t)) c.loop-row.invariant.wide

pub keep_row-requires-clause-below : goal.keep_row-requires-clause-below
keep_row-requires-clause-below g c κs lives =
    let gives = c.into_iter-row-iterator.ensures.into_iter_gives in
    let items = c.into_records-row-items in
    let t = YieldsList-turn (YieldsList-from_vec {s = c.into_iter-row-iterator.result} c.args.rows (gives.0 ∙ items.ensures) (gives.1 ∙ items.result.ok.0 ∙ ap length items.ensures)) c.loop-row.yielded c.loop-row.row-iterator c.loop-row.yielded_by c.next.result c.next.new.self
    c.in-Some.row c.in-Some.is c.next.ensures.steps in
    subst (λ (n : ℕ). AreBelow n (g.L.Local.key_fields c.loop-row.kept)) (sym (next_width c.args.fields c.loop-row.yielded c.args.rows c.in-Some.row c.requires.rows_wide t))
    (subst (AreBelow c.args.fields) (sym c.loop-row.invariant.same) c.requires.below)

pub keep_row-requires-clause-keys : goal.keep_row-requires-clause-keys
keep_row-requires-clause-keys g c κs lives =
    let gives = c.into_iter-row-iterator.ensures.into_iter_gives in
    let items = c.into_records-row-items in
    let t = YieldsList-turn (YieldsList-from_vec {s = c.into_iter-row-iterator.result} c.args.rows (gives.0 ∙ items.ensures) (gives.1 ∙ items.result.ok.0 ∙ ap length items.ensures)) c.loop-row.yielded c.loop-row.row-iterator c.loop-row.yielded_by c.next.result c.next.new.self
    c.in-Some.row c.in-Some.is c.next.ensures.steps in
    subst (λ (n : ℕ). AreBelow n c.args.keys.now) (sym (next_width c.args.fields c.loop-row.yielded c.args.rows c.in-Some.row c.requires.rows_wide t)) c.requires.keys

pub loop-row-preserved : goal.loop-row-preserved
loop-row-preserved g c =
    let gives = c.into_iter-row-iterator.ensures.into_iter_gives in
    let items = c.into_records-row-items in
    let t = YieldsList-turn (YieldsList-from_vec {s = c.into_iter-row-iterator.result} c.args.rows (gives.0 ∙ items.ensures) (gives.1 ∙ items.result.ok.0 ∙ ap length items.ensures)) c.loop-row.yielded c.loop-row.row-iterator c.loop-row.yielded_by c.next.result c.next.new.self
    c.in-Some.row c.in-Some.is c.next.ensures.steps in
    row_kept g.L.Local.rows g.L.Local.key_fields g.L.Local.is_sealed c.args.fields (may_match c.args.nulls c.args.keys.now) c.loop-row.yielded c.in-Some.row c.args.kept.now c.loop-row.kept c.keep_row.new.kept
    (next_width c.args.fields c.loop-row.yielded c.args.rows c.in-Some.row c.requires.rows_wide t) c.in_ok-keep_row.ensures c.loop-row.invariant

pub returns : goal.returns
returns g c =
    let gives = c.into_iter-row-iterator.ensures.into_iter_gives in
    let items = c.into_records-row-items in
    let all = YieldsList-end (YieldsList-from_vec {s = c.into_iter-row-iterator.result} c.args.rows (gives.0 ∙ items.ensures) (gives.1 ∙ items.result.ok.0 ∙ ap length items.ensures)) c.loop-row.yielded c.loop-row.row-iterator c.loop-row.yielded_by c.next.result c.next.new.self
    c.in-None.is c.next.ensures.steps in
    subst (λ (rows : Bag). IsKept g.L.Local.rows g.L.Local.key_fields g.L.Local.is_sealed c.args.fields (filter (may_match c.args.nulls c.args.keys.now) rows) c.args.kept.now c.loop-row.kept) (sym (map-id c.loop-row.yielded) ∙ all.0) c.loop-row.invariant
