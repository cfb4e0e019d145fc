use Rattle.std.proofs.Common.{ℕ, List, arith, subst}
use Rattle.std.specs.List.Sorted.{IsPermutation}
use Rattle.pact_operators.specs.Allowed.{Bag, keys_in}
use Rattle.pact_record.specs.declared.values.Value.{Value}
use Rattle.tac_syntax.specs.Call.{Out, of_groups}
use Rattle.flow_instance.specs.Grouping.{IsCalledFrom}
use Rattle.flow_instance.proofs.CallsForGroups.{all_given, called_from, given_on, sides_at}
use Rattle.flow_instance.proofs.grouping.cogroup_side.Goals as goal

pub groups_at-groups-requires-clause-below : goal.groups_at-groups-requires-clause-below
groups_at-groups-requires-clause-below g c = λ lifetimes bound. (c.args.f.now.fields, c.requires.sides.left_below, c.requires.sides.left_wide)

pub call_from-requires-clause-sides : goal.call_from-requires-clause-sides
call_from-requires-clause-sides g c = sides_at c.requires.sides c.groups_at-groups.ensures

pub loop-n-preserved : goal.loop-n-preserved
loop-n-preserved g c =
    let f = c.args.f.now in
    let calls : List Value → Bag → Bag → Bag = λ k x y. Out f.fields f.function.body (of_groups k x y) in
    given_on f.fields (IsCalledFrom c.args.side calls c.args.keys.now c.args.other_keys.now (g.L.Local.rows c.args.own.now) (g.L.Local.rows c.args.others.now))
    (g.L.Local.order c.args.own.now) c.loop-n.n c.loop-n.out _ (omega (arith, c.key_count-n-end.ensures.count, c.loop-n-test.true)) c.loop-n.invariant.0
    (called_from c.args.side calls c.loop-n.out _ c.requires.sides.right_same c.groups_at-groups.ensures c.in_ok-call_from.ensures.given) c.in_ok-call_from.ensures.widths

pub returns-clause-given : goal.returns-clause-given
returns-clause-given g c =
    let f = c.args.f.now in
    let calls : List Value → Bag → Bag → Bag = λ k x y. Out f.fields f.function.body (of_groups k x y) in
    all_given (IsCalledFrom c.args.side calls c.args.keys.now c.args.other_keys.now (g.L.Local.rows c.args.own.now) (g.L.Local.rows c.args.others.now)) (g.L.Local.order c.args.own.now) c.loop-n.n c.loop-n.out
    (omega (arith, c.key_count-n-end.ensures.count, c.loop-n-test.false)) c.loop-n.invariant.0

pub returns-clause-order : goal.returns-clause-order
returns-clause-order g c =
    let rows = g.L.Local.rows c.args.own.now in
    let order = g.L.Local.order c.args.own.now in
    subst (λ (ks : List ℕ). IsPermutation (keys_in ks rows) order) c.requires.sides.left_same c.key_count-n-end.ensures.order
