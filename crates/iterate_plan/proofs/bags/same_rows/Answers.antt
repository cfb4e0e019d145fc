use Rattle.std.proofs.Common.{map, sym, ◌∙◌}
use Rattle.std.specs.Cmp.Derive.Mapped.{pointwise-map}
use Rattle.std.specs.Ordering.{eq_by_cmp}
use Rattle.std.proofs.lemmas.Slice.Eq.{slice_eq-Decides}
use Rattle.pact_record.specs.Record.{record_cmp}
use Rattle.iterate_plan.proofs.SortedBags.{Decides-record}
use Rattle.iterate_plan.proofs.bags.same_rows.Goals as goal

pub returns : goal.returns
returns c =
    let rows = c.args.rows.now in
    let others = c.args.others.now in
    let tested = sym (pointwise-map (λ r. r.now) (eq_by_cmp record_cmp) rows others) in
    slice_eq-Decides Decides-record (map (λ r. r.now) rows) (map (λ r. r.now) others) _ (c.eq.ensures ∙ tested)
