use Rattle.std.proofs.Common.{◌+◌, arith, refl}
use Rattle.group_table.proofs.StoredRows.{all_emptied, count-left, more_emptied, moved_further}
use Rattle.group_table.proofs.gathering.gather.Goals as goal

pub loop-n-preserved : goal.loop-n-preserved
loop-n-preserved c =
    let now = c.loop-n in (
      moved_further c.args.groups.now now.groups c.gather_list.new.groups c.args.lists.now.lists now.lists.lists c.gather_list.new.lists.lists now.invariant.0 c.in_ok-gather_list.ensures.moved,
      more_emptied now.lists.lists c.gather_list.new.lists.lists now.n (now.n + 1) refl now.invariant.1 c.in_ok-gather_list.ensures.emptied,
    )

pub returns-clause-emptied : goal.returns-clause-emptied
returns-clause-emptied c =
    let now = c.loop-n in
    let all = count-left c.args.groups.now now.groups c.args.lists.now.lists now.lists.lists c.requires now.invariant.0 in
    let done = c.loop-n-test.false in
    let end = c.count-n-end.ensures in
    all_emptied now.lists.lists now.n (omega (arith, all, done, end)) now.invariant.1
