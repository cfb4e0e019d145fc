use Rattle.std.proofs.Common.{◌≡◌, ◌<◌, ◌+◌, List, Ok, get_or, length, take, subst, sym, ◌∙◌}
use Rattle.std.proofs.lemmas.Result.{err_from_is_err_and}
use Rattle.pact_operators.specs.declared.operators.Op.{Op}
use Rattle.pact_operators.specs.PlanOps.{sources_of}
use Rattle.pact_load.specs.Answers.{Comes}
use Rattle.pact_load.specs.Stages.{each}
use Rattle.pact_load.specs.Loading.{source_file}
use Rattle.pact_load.proofs.Sources.{columns_below, sources_kept, sources_moved, sources_next, sources_stop}
use Rattle.pact_load.proofs.loading.load_sources.Goals.{then-is_source+in_ok-rows+in_ok-push_rows, else-is_source}
use Rattle.pact_load.proofs.loading.load_sources.Goals as goal

pub load_rows-requires-clause-columns : goal.load_rows-requires-clause-columns
load_rows-requires-clause-columns g c =
    let p = c.args.program.now in
    let n = c.loop-op.op-index in
    let op = c.op-item.result in
    rw c.fields-fields.ensures.fields
    (columns_below p.fields p.ops n op (subst (λ (l : List Op). n < length l) c.ops-op-items.ensures.ops c.loop-op-test.true) (subst (λ (l : List Op). op ≡ get_or l n op) c.ops-op-items.ensures.ops c.op-item.is)
    c.fields-fields.ensures.keeps.columns_below)

pub returns-in_err-rows : goal.returns-in_err-rows
returns-in_err-rows g c =
    let e = err_from_is_err_and c.from_residual.result c.from_residual.ensures.1 in
    let items = c.ops-op-items.result.now in
    rw (e.1, e.2) (sources_moved c.args.program.now c.fields-fields.result items c.fields-fields.ensures.fields c.ops-op-items.ensures.ops
    (sources_stop (source_file c.fields-fields.result) items c.loop-op.op-index c.op-item.result c.loop-op.inputs c.in_err-rows.field-0.0 c.loop-op-test.true c.op-item.is
    (sym c.is_source.ensures ∙ c.if-is_source.true) c.loop-op.invariant c.in_err-rows.ensures))

pub loop-op-preserved : goal.loop-op-preserved
loop-op-preserved g c =
    let items = c.ops-op-items.result.now in
    let n = c.loop-op.op-index in
    let op = c.op-item.result in
    let k = source_file c.fields-fields.result in
    elim c.if-is_source.branch [
      | then-is_source+in_ok-rows+in_ok-push_rows w ↦ subst
          (λ f. Comes (λ files. each (k files) (sources_of (take (n + 1) items))) (g.F.Feed.shows c.args.feed.now) (g.F.Feed.shows f) (Ok c.if-is_source.inputs))
          (sym w.feed-is)
          (sources_next k items n op c.loop-op.inputs c.if-is_source.inputs w.in_ok-rows.rows c.loop-op-test.true c.op-item.is (sym c.is_source.ensures ∙ w.if-is_source.true) (w.inputs-is ∙ w.in_ok-push_rows.ensures)
          c.loop-op.invariant w.in_ok-rows.ensures)
      | else-is_source w ↦ subst
          (λ f. Comes (λ files. each (k files) (sources_of (take (n + 1) items))) (g.F.Feed.shows c.args.feed.now) (g.F.Feed.shows f) (Ok c.if-is_source.inputs))
          (sym w.feed-is)
          (sources_kept k items n op c.loop-op.inputs c.if-is_source.inputs c.loop-op-test.true c.op-item.is (sym c.is_source.ensures ∙ w.if-is_source.false) w.inputs-is c.loop-op.invariant)
    ]
