use Rattle.std.proofs.Common.{ℕ, sym, subst}
use Rattle.pact_record.specs.Widths.{AreBelow}
use Rattle.flow_instance.proofs.CallsForGroups.{numbered_as, other_group, row_width}
use Rattle.flow_instance.proofs.grouping.groups_at.Goals as goal

pub at-requires : goal.at-requires
at-requires g c =
    (numbered_as (g.L.Local.rows c.args.own.now) (g.L.Local.order c.args.own.now) c.args.n c.borrow_group_at-own_group.result.now c.requires.same c.requires.number c.requires.order c.borrow_group_at-own_group.ensures).some

pub borrow_group_of-other-requires-clause-below : goal.borrow_group_of-other-requires-clause-below
borrow_group_of-other-requires-clause-below g c =
    let r = numbered_as (g.L.Local.rows c.args.own.now) (g.L.Local.order c.args.own.now) c.args.n c.borrow_group_at-own_group.result.now c.requires.same c.requires.number c.requires.order c.borrow_group_at-own_group.ensures in
    subst (λ (m : ℕ). AreBelow m c.args.keys.now) (sym (row_width r c.requires.below.2 c.at.ensures)) c.requires.below.1

pub returns : goal.returns
returns g c =
    let r = numbered_as (g.L.Local.rows c.args.own.now) (g.L.Local.order c.args.own.now) c.args.n c.borrow_group_at-own_group.result.now c.requires.same c.requires.number c.requires.order c.borrow_group_at-own_group.ensures in
    record {
      key = r.key;
      is = r.is;
      same = r.same;
      some = r.some;
      other_same = other_group (g.L.Local.key_fields c.args.others.now) (g.L.Local.rows c.args.others.now) c.borrow_group_of-other.result.now r c.at.ensures c.borrow_group_of-other.ensures;
    }
