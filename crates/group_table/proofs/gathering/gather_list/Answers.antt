use Rattle.std.proofs.Common.{◌<◌, subst, sym}
use Rattle.group_table.proofs.StoredRows.{count-left, is_off, moved_further, one_moved, others_stay}
use Rattle.group_table.proofs.gathering.gather_list.Goals as goal

pub put-requires-clause-wide : goal.put-requires-clause-wide
put-requires-clause-wide c =
    let now = c.loop-lists in
    let within = subst (λ l. c.args.n < l) (sym (count-left c.args.groups.now now.groups c.args.lists.now.lists now.lists.lists c.requires.behind now.invariant.0)) c.requires.number in
    (is_off now.groups.keys now.groups.groups now.lists c.take_first-row.new.self c.args.n c.take_first-row.result now.invariant.0.behind within c.take_first-row.ensures).wide

pub put-requires-clause-below : goal.put-requires-clause-below
put-requires-clause-below c =
    let now = c.loop-lists in
    let within = subst (λ l. c.args.n < l) (sym (count-left c.args.groups.now now.groups c.args.lists.now.lists now.lists.lists c.requires.behind now.invariant.0)) c.requires.number in
    (is_off now.groups.keys now.groups.groups now.lists c.take_first-row.new.self c.args.n c.take_first-row.result now.invariant.0.behind within c.take_first-row.ensures).below

pub loop-lists-preserved : goal.loop-lists-preserved
loop-lists-preserved c =
    let now = c.loop-lists in
    let within = subst (λ l. c.args.n < l) (sym (count-left c.args.groups.now now.groups c.args.lists.now.lists now.lists.lists c.requires.behind now.invariant.0)) c.requires.number in
    let off = is_off now.groups.keys now.groups.groups now.lists c.take_first-row.new.self c.args.n c.take_first-row.result now.invariant.0.behind within c.take_first-row.ensures in
    let put = c.in_ok-put.ensures in (
      moved_further c.args.groups.now now.groups c.put.new.self c.args.lists.now.lists now.lists.lists c.take_first-row.new.self.lists now.invariant.0
          (one_moved now.groups c.put.new.self now.lists.lists c.take_first-row.new.self.lists c.args.n c.take_first-row.result now.invariant.0.behind off put.keys put.order put.rows),
      others_stay c.args.lists.now.lists now.lists.lists c.take_first-row.new.self.lists c.args.n now.invariant.1 c.take_first-row.ensures.lists,
    )
