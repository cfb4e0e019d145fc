use Rattle.std.proofs.Common.{◌≡◌, List, length, sym, subst}
use Rattle.pact_bag.proofs.Widths.{HaveOneWidth-append}
use Rattle.pact_operators.specs.Allowed.{Bag}
use Rattle.pact_record.proofs.Lists.{AllByRecursion-append}
use Rattle.pact_record.specs.Widths.{AreWide}
use Rattle.pact_record.specs.declared.values.Value.{Value}
use Rattle.tac_syntax.specs.Call.{Out, of_groups}
use Rattle.flow_instance.proofs.CallsForGroups.{cogroups_given, sides_turned}
use Rattle.flow_instance.proofs.grouping.cogroup_kept.Goals as goal

pub cogroup_side-requires-2-clause-sides : goal.cogroup_side-requires-2-clause-sides
cogroup_side-requires-2-clause-sides g c = λ lifetimes bound. sides_turned c.requires.sides

pub append-requires : goal.append-requires
append-requires g c = HaveOneWidth-append c.args.f.now.fields _ _ c.in_ok-out.ensures.widths c.in_ok-alone.ensures.widths

pub returns-clause-given : goal.returns-clause-given
returns-clause-given g c =
    let f = c.args.f.now in
    let calls : List Value → Bag → Bag → Bag = λ k x y. Out f.fields f.function.body (of_groups k x y) in
    let first = c.in_ok-out.ensures in
    let second = c.in_ok-alone.ensures in
    cogroups_given calls c.args.left_keys.now c.args.right_keys.now (g.L.Local.rows c.args.lefts.now) (g.L.Local.rows c.args.rights.now) (g.L.Local.order c.args.lefts.now) (g.L.Local.order c.args.rights.now)
    c.in_ok-out.out c.in_ok-alone.alone _ c.in_ok-append.ensures.ok first.order second.order first.given second.given

pub returns-clause-widths : goal.returns-clause-widths
returns-clause-widths g c = subst (AreWide c.args.f.now.fields) (sym c.in_ok-append.ensures.ok)
    (AllByRecursion-append (λ (row : List Value). length row ≡ c.args.f.now.fields) c.in_ok-out.out c.in_ok-alone.alone c.in_ok-out.ensures.widths c.in_ok-alone.ensures.widths)
