use Rattle.std.proofs.Common.{arith}
use Rattle.text_marks.proofs.Listing.{joined, loops_next, none_more}
use Rattle.text_marks.proofs.expecting.try_loops_below.Goals as goal

pub loop-number-init : goal.loop-number-init
loop-number-init c = (none_more c.args.found.now, λ n l b. absurd (omega (arith, l, b)))

pub loop-number-preserved : goal.loop-number-preserved
loop-number-preserved c = (
  joined c.loop-number.invariant.0 c.in_ok-try_item.ensures.more,
  loops_next c.in_ok-try_item.ensures.more c.loop-number.number c.loop-number.invariant.1 c.in_ok-try_item.ensures.tried,
)

pub returns-clause-tried : goal.returns-clause-tried
returns-clause-tried c = λ n l b. c.loop-number.invariant.1 n l (omega (arith, b, c.loop-number-test.false))
