use Rattle.std.proofs.Common.{◌≡◌, ◌+◌, List, length, ap, subst, arith}
use Rattle.reorder_pair.specs.declared.rules.Rule.{Rule}
use Rattle.reorder_pair.specs.Rules.{all_rules}
use Rattle.plan_enumerate.specs.Walks.{GoesTo, IsWalked}
use Rattle.plan_enumerate.proofs.PastExchanges.{past_rules}
use Rattle.plan_enumerate.proofs.enumerating.add_by_rules.Goals as goal

pub loop-n-preserved : goal.loop-n-preserved
loop-n-preserved c =
    (subst (GoesTo c.args.program.now c.args.limit c.add_neighbour.new.entries c.args.from c.args.at (c.loop-n.n + 1)) c.if-not-branch.false c.in_ok-add_neighbour.ensures.walked, c.in_ok-add_neighbour.ensures.entry, c.in_ok-add_neighbour.ensures.findings)

pub returns-clause-walked : goal.returns-clause-walked
returns-clause-walked c =
    let p = c.args.program.now in
    let low = c.loop-n-test.false in
    let high = c.loop-n.auto.n-end in
    let same : length c.all-n-end.result.now ≡ length all_rules = ap (λ (rules : List Rule). length rules) c.all-n-end.ensures in
    let last : c.loop-n.n ≡ length all_rules = omega (arith, low, high, same) in
    past_rules p c.args.limit c.loop-n.entries c.args.from c.args.at (subst (IsWalked p c.args.limit c.loop-n.entries c.args.from c.args.at) last c.loop-n.invariant.0)
