use Rattle.std.proofs.Common.{true≢false, sym, ◌∙◌}
use Rattle.swap_certificate.proofs.NamedOperators.{unnamed-all, unnamed-next}
use Rattle.swap_certificate.proofs.names.operator_named.Goals as goal

pub loop-at-preserved : goal.loop-at-preserved
loop-at-preserved c =
    unnamed-next c.args.ops.now c.args.name.now c.loop-at.at c.index-ops-at.result c.index-ops-at.is (λ h. true≢false (sym (c.has_name.ensures.1 h) ∙ c.if-has_name.false))
    c.loop-at.invariant

pub returns-clause-none : goal.returns-clause-none
returns-clause-none c = unnamed-all c.args.ops.now c.args.name.now c.loop-at.at c.loop-at-test.false c.loop-at.invariant
