use Rattle.std.proofs.Common.{◌≡◌, take}
use Rattle.pact_bag.specs.Groups.{group_of_key}
use Rattle.pact_record.specs.Widths.{AreWide}
use Rattle.slow_eval.proofs.grouping.group_of.Given as goal

abbrev pub invariant-loop-row : goal.invariant-loop-row
invariant-loop-row l = (l.group ≡ group_of_key l.keys (take l.row-index l.row-items) l.key) × AreWide l.fields l.group
