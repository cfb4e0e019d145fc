use Rattle.std.proofs.Common.{◌∙◌}
use Rattle.std.proofs.lemmas.Result.{IfOk-weaker}
use Rattle.text_marks.proofs.Listing.{next_loop_at}
use Rattle.text_marks.proofs.expecting.is_next_loop.Goals as goal

pub returns : goal.returns
returns c =
    IfOk-weaker c.is_accepted.result _ _
    (λ next h k. next_loop_at c.args.mark.now.from c.line_number-line.result c.in-Some.start c.in-Some.field-0-1 c.args.number c.args.text.now c.bytes.result.now next c.line_number-line.ensures c.in-Some.ensures.line (c.bytes.ensures ∙ c.in_ok-words.ensures) h k)
    c.is_accepted.ensures
