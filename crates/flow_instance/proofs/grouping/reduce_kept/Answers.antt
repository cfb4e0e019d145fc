use Rattle.std.proofs.Common.{ℕ, List, arith, subst}
use Rattle.std.specs.List.Sorted.{IsPermutation}
use Rattle.pact_operators.specs.Allowed.{Bag, keys_in}
use Rattle.pact_record.specs.declared.values.Value.{Value}
use Rattle.tac_syntax.specs.Call.{Out, of_group}
use Rattle.flow_instance.specs.Grouping.{IsCalled}
use Rattle.flow_instance.proofs.CallsForGroups.{all_given, given_on, groups_given}
use Rattle.flow_instance.proofs.grouping.reduce_kept.Goals as goal

pub loop-n-preserved : goal.loop-n-preserved
loop-n-preserved g c =
    let f = c.args.f.now in
    let calls : List Value → Bag → Bag = λ k group. Out f.fields f.function.body (of_group k group) in
    given_on f.fields (IsCalled calls c.args.keys.now (g.L.Local.rows c.args.kept.now)) (g.L.Local.order c.args.kept.now) c.loop-n.n c.loop-n.out _
    (omega (arith, c.key_count-n-end.ensures.count, c.loop-n-test.true)) c.loop-n.invariant.0 c.in_ok-reduce_one.ensures.given c.in_ok-reduce_one.ensures.widths

pub returns-clause-given : goal.returns-clause-given
returns-clause-given g c =
    let f = c.args.f.now in
    let calls : List Value → Bag → Bag = λ k group. Out f.fields f.function.body (of_group k group) in
    let rows = g.L.Local.rows c.args.kept.now in
    let order = g.L.Local.order c.args.kept.now in
    groups_given calls c.args.keys.now rows order c.loop-n.out (subst (λ (ks : List ℕ). IsPermutation (keys_in ks rows) order) c.requires.keys c.key_count-n-end.ensures.order)
    (all_given (IsCalled calls c.args.keys.now rows) order c.loop-n.n c.loop-n.out (omega (arith, c.key_count-n-end.ensures.count, c.loop-n-test.false)) c.loop-n.invariant.0)
