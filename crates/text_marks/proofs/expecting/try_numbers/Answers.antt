use Rattle.std.proofs.Common.{codes, inl, inr}
use Rattle.std.specs.Prelude.{decimal}
use Rattle.std.proofs.lemmas.Result.{IfOk-weaker}
use Rattle.text_marks.specs.declared.expected.Expected.TheVariants.{Signed}
use Rattle.text_marks.proofs.Listing.{if_refused, pushed_listed}
use Rattle.text_marks.proofs.expecting.try_numbers.Goals as goal

pub returns-then-branch-clause-tried : goal.returns-then-branch-clause-tried
returns-then-branch-clause-tried c = inl (pushed_listed Signed c.args.found.now c.push.new.self c.in_ok-push.ensures.ok)

pub returns-then-branch-2-clause-tried : goal.returns-then-branch-2-clause-tried
returns-then-branch-2-clause-tried c =
    let signed = if_refused c.args.mark.now.from c.args.mark.now.to (codes "-1") c.args.text.now c.in_ok-fits.field-0 c.if-branch.false c.in_ok-fits.ensures in
    IfOk-weaker c.add_range.result _ _ (λ x h. inr (signed, inl h)) c.add_range.ensures.listed

pub returns-then-branch-3-clause-tried : goal.returns-then-branch-3-clause-tried
returns-then-branch-3-clause-tried c =
    let signed = if_refused c.args.mark.now.from c.args.mark.now.to (codes "-1") c.args.text.now c.in_ok-fits.field-0 c.if-branch.false c.in_ok-fits.ensures in
    let zero = if_refused c.args.mark.now.from c.args.mark.now.to (decimal 0) c.args.text.now c.in_ok-is_number_accepted.field-0 c.if-branch-2.false c.in_ok-is_number_accepted.ensures in
    IfOk-weaker c.add_range-then-branch-3.result _ _ (λ x h. inr (signed, inr (zero, inl h))) c.add_range-then-branch-3.ensures.listed
