use Rattle.std.proofs.Common.{sym, ◌∙◌}
use Rattle.explain_words.proofs.Ranges.{counts_put, fields_put, numbers_put, on_ok}
use Rattle.explain_words.proofs.text_faults.put_range.Goals as goal

pub returns-in_ok-put_number : goal.returns-in_ok-put_number
returns-in_ok-put_number c =
    on_ok c.put-then-are_fields-2.result
    (λ put. fields_put c.args.low c.args.high c.args.fields c.args.is_key _ _ _ _ c.if-is_key.false (sym c.are_fields.ensures ∙ c.if-are_fields.true) c.in_ok-put.ensures c.in_ok-put_number.ensures put)
    c.put-then-are_fields-2.ensures

pub returns-then-are_counts : goal.returns-then-are_counts
returns-then-are_counts c =
    on_ok c.put-then-are_counts.result
    (λ put. counts_put c.args.low c.args.high c.args.fields c.args.is_key _ _ c.if-is_key.false (sym c.are_fields.ensures ∙ c.if-are_fields.false) (sym c.are_counts.ensures ∙ c.if-are_counts.true) put)
    c.put-then-are_counts.ensures

pub returns-in_ok-put-3 : goal.returns-in_ok-put-3
returns-in_ok-put-3 c =
    on_ok c.put_number-else-are_counts-2.result
    (λ put. numbers_put c.args.low c.args.high c.args.fields c.args.is_key _ _ _ _ _ c.if-is_key.false (sym c.are_fields.ensures ∙ c.if-are_fields.false) (sym c.are_counts.ensures ∙ c.if-are_counts.false)
    c.in_ok-put-2.ensures c.in_ok-put_number-2.ensures c.in_ok-put-3.ensures put)
    c.put_number-else-are_counts-2.ensures
