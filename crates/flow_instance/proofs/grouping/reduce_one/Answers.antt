use Rattle.std.proofs.Common.{refl}
use Rattle.std.proofs.lemmas.Result.{on_ok_weaker}
use Rattle.tac_syntax.specs.Call.{Out, of_group}
use Rattle.flow_instance.proofs.CallsForGroups.{called, keys_of_group, numbered_as, numbered_wide}
use Rattle.flow_instance.proofs.grouping.reduce_one.Goals as goal

pub group_into-requires-clause-some : goal.group_into-requires-clause-some
group_into-requires-clause-some g c =
    (numbered_as (g.L.Local.rows c.args.kept.now) (g.L.Local.order c.args.kept.now) c.args.n c.borrow_group_at-group.result.now c.requires.keys c.requires.number c.requires.order c.borrow_group_at-group.ensures).some

pub group_into-requires-clause-group_widths : goal.group_into-requires-clause-group_widths
group_into-requires-clause-group_widths g c =
    numbered_wide c.args.f.now.fields (numbered_as (g.L.Local.rows c.args.kept.now) (g.L.Local.order c.args.kept.now) c.args.n c.borrow_group_at-group.result.now c.requires.keys c.requires.number c.requires.order c.borrow_group_at-group.ensures) c.requires.widths

pub returns-clause-given : goal.returns-clause-given
returns-clause-given g c =
    let f = c.args.f.now in
    let rows = g.L.Local.rows c.args.kept.now in
    let group = c.borrow_group_at-group.result.now in
    let r = numbered_as rows (g.L.Local.order c.args.kept.now) c.args.n group c.requires.keys c.requires.number c.requires.order c.borrow_group_at-group.ensures in
    on_ok_weaker c.group_into.result (λ e. (Out f.fields f.function.body (of_group r.key group), called (λ k l. Out f.fields f.function.body (of_group k l)) (Out f.fields f.function.body (of_group r.key group)) r refl, e))
    (c.group_into.ensures.given r.key (keys_of_group c.args.keys.now rows group r.key r.same))
