use Rattle.std.proofs.lemmas.Result.{IfOk-weaker}
use Rattle.bag_lines.proofs.SortedText.{are_lines, within-permuted}
use Rattle.bag_lines.proofs.lines.sorted_lines.Goals as goal

pub write_fields-requires-clause-within : goal.write_fields-requires-clause-within
write_fields-requires-clause-within c =
    let rows = c.in_ok-rows in
    rw c.rows-2.ensures.rows
    (within-permuted c.args.fields.now c.args.bag rows.rows rows.ensures.permuted c.requires.within)

pub returns : goal.returns
returns c =
    let rows = c.in_ok-rows in
    let text_is = rw c.rows-2.ensures.rows at c.write_fields.ensures in
    IfOk-weaker c.write_fields.result _ _ (λ text e.
    are_lines c.args.fields.now c.args.bag rows.rows text rows.ensures.permuted rows.ensures.sorted e
    ) text_is
