use Rattle.std.proofs.lemmas.Result.{IfOk-weaker}
use Rattle.bag_lines.proofs.SortedText.{are_lines, within-permuted}
use Rattle.bag_lines.proofs.lines.sorted_lines_on_threads.Goals as goal

pub text_in_parts-requires-after_bounds : goal.text_in_parts-requires-after_bounds
text_in_parts-requires-after_bounds g c κs within =
    let rows = c.in_ok-rows in
    rw c.into_records.ensures
    (c.requires.few, within-permuted c.args.fields.now c.args.bag rows.rows rows.ensures.permuted c.requires.within)

pub returns : goal.returns
returns g c =
    let rows = c.in_ok-rows in
    let text_is = rw c.into_records.ensures at c.text_in_parts.ensures in
    IfOk-weaker c.text_in_parts.result _ _ (λ text e.
    are_lines c.args.fields.now c.args.bag rows.rows text rows.ensures.permuted rows.ensures.sorted e
    ) text_is
