use Rattle.std.proofs.Common.{◌≡◌, ◌<◌, ◌∙◌, length, arith}
use Rattle.iterate_plan.proofs.CutRows.{cut-done, cut-next}
use Rattle.iterate_plan.proofs.cutting.cut_row.Goals as goal

pub loop-field-preserved : goal.loop-field-preserved
loop-field-preserved c =
    let field = c.loop-field.field in
    let kept = c.loop-field.invariant in
    let below : field < length c.args.row.now = omega (arith, c.loop-field-test.true, c.len-fields.ensures.len) in (
      cut-next c.args.columns.now c.args.row.now field c.loop-field.values.items _ _ below kept.0 c.in_ok-kept_value.ensures
          c.push_reserved.ensures.items,
      omega (arith, c.push_reserved.ensures.len, kept.1),
      c.push_reserved.ensures.capacity ∙ kept.2,
    )

pub returns : goal.returns
returns c =
    let field = c.loop-field.field in
    let row = c.args.row.now in
    let over : field ≡ length row = omega (arith, c.loop-field-test.false, c.loop-field.auto.field-end, c.len-fields.ensures.len) in
    c.from_vec.ensures ∙ cut-done c.args.columns.now row field c.loop-field.values.items over c.loop-field.invariant.0
