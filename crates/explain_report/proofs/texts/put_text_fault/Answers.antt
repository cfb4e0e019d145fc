use Rattle.std.proofs.Common.{◌≤◌, ◌<◌, ℕ, length, sym, subst, ◌∙◌}
use Rattle.explain_report.proofs.Printing.{its_line, on_ok, printed}
use Rattle.explain_report.proofs.texts.put_text_fault.Goals as goal

pub returns : goal.returns
returns c =
    let place = c.in_ok-put_place.ensures in
    on_ok c.put-2.result
    (λ put. printed c.args.file.now c.args.text.now c.args.spot.now c.shown_part-shown.result.line c.shown_part-shown.result.from c.args.page.now _ _ _ _ place.0 c.bytes.result.now c.bytes-2.result.now
    (its_line c.shown_part-shown.result.from c.shown_part-shown.result.line _ _ _ _ c.args.text.now c.part_of-there.ensures.from c.part_of-there.ensures.line c.shown_part-shown.ensures.line) (subst (λ (n : ℕ). c.shown_part-shown.result.from ≤ n) c.part_of-there.ensures.from c.shown_part-shown.ensures.before)
    (λ l. c.shown_part-shown.ensures.same (subst (λ (n : ℕ). n < length c.args.text.now) (sym c.part_of-there.ensures.from) l) ∙ c.part_of-there.ensures.from)
    place.1 c.in_ok-put.ensures c.in_ok-put_expected.ensures put)
    c.put-2.ensures
