use Rattle.std.proofs.Common.{◌≡◌, ◌<◌, ℕ, [], get_or}
use Rattle.group_table.specs.Stored.{AreMoved}
use Rattle.group_table.proofs.gathering.gather.Given as goal

abbrev pub invariant-loop-n : goal.invariant-loop-n
invariant-loop-n l = AreMoved l.fn.groups l.fn.lists.lists l.groups l.lists.lists × ((i : ℕ) → i < l.n → get_or l.lists.lists i [] ≡ [])
