use Rattle.std.proofs.Common.{inl, inr}
use Rattle.std.proofs.lemmas.Result.{IfOk-weaker}
use Rattle.text_marks.proofs.expecting.try_loops.Goals as goal

pub returns-then-branch-clause-tried : goal.returns-then-branch-clause-tried
returns-then-branch-clause-tried c =
    IfOk-weaker c.try_open_loops.result _ _ (λ x h. inl (c.in_ok-next.next, c.in_ok-is_next_loop.ensures c.if-branch.true, h)) c.try_open_loops.ensures.tried

pub returns-clause-tried : goal.returns-clause-tried
returns-clause-tried c = IfOk-weaker c.try_loops_below.result _ _ (λ x h. inr h) c.try_loops_below.ensures.tried
