use Rattle.std.proofs.Common.{◌≡◌, ◌+◌, ℕ, arith, inr, subst}
use Rattle.std.specs.Prelude.{decimal}
use Rattle.text_marks.specs.Expecting.{IsRefused}
use Rattle.text_marks.proofs.expecting.greatest_between.Goals as goal

pub returns-clause-ends : goal.returns-clause-ends
returns-clause-ends c =
    let next : c.loop-over.over ≡ c.loop-over.best + 1 = omega (arith, c.loop-over.invariant.0, c.loop-over-test.false) in
    inr (subst (λ (number : ℕ). IsRefused c.args.mark.now.from c.args.mark.now.to c.args.text.now (decimal number)) next c.loop-over.invariant.2)
