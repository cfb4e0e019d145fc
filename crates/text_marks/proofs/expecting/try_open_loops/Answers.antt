use Rattle.std.proofs.Common.{codes, inl, inr}
use Rattle.std.proofs.lemmas.Result.{IfOk-weaker}
use Rattle.text_marks.proofs.Listing.{if_accepted}
use Rattle.text_marks.proofs.expecting.try_open_loops.Goals as goal

pub returns-then-branch-clause-tried : goal.returns-then-branch-clause-tried
returns-then-branch-clause-tried c =
    let accepted = if_accepted c.args.mark.now.from c.args.mark.now.to (codes "in") c.args.text.now c.in_ok-is_accepted.field-0 c.if-branch.true c.in_ok-is_accepted.ensures in
    IfOk-weaker c.try_loops_below.result _ _ (λ x h. inl (accepted, h)) c.try_loops_below.ensures.tried

pub returns-clause-tried : goal.returns-clause-tried
returns-clause-tried c = IfOk-weaker c.try_loops_below-2.result _ _ (λ x h. inr h) c.try_loops_below-2.ensures.tried
