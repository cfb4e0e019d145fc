use Rattle.std.proofs.Common.{◌≡◌, [], get_or, length}
use Rattle.std.specs.Prelude.{slice_set}
use Rattle.group_table.specs.Stored.{AreMoved}
use Rattle.group_table.proofs.gathering.gather_list.Given as goal

abbrev pub invariant-loop-lists : goal.invariant-loop-lists
invariant-loop-lists l = AreMoved l.fn.groups l.fn.lists.lists l.groups l.lists.lists × (l.lists.lists ≡ slice_set l.fn.lists.lists l.n (get_or l.lists.lists l.n []))

abbrev pub decreases-loop-lists : goal.decreases-loop-lists
decreases-loop-lists l = length (get_or l.lists.lists l.n [])
