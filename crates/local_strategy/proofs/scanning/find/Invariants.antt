use Rattle.std.proofs.Common.{◌≡◌, drop}
use Rattle.pact_bag.proofs.KeyGroups.{occurs}
use Rattle.pact_record.specs.Record.{key_of}
use Rattle.local_strategy.specs.Grouped.{order_of}
use Rattle.local_strategy.proofs.scanning.find.Given as goal

abbrev pub invariant-loop-n : goal.invariant-loop-n
invariant-loop-n l = occurs (key_of l.keys l.row) (order_of l.groups.keys l.groups.groups) ≡ occurs (key_of l.keys l.row) (drop l.n (order_of l.groups.keys l.groups.groups))
