use Rattle.std.proofs.Common.{◌≡◌, ◌++◌, List, length, map, take}
use Rattle.pact_bag.specs.Groups.{distinct_keys}
use Rattle.pact_record.specs.declared.values.Value.{Value}
use Rattle.pact_record.specs.Record.{key_of}
use Rattle.pact_record.specs.Widths.{AreWide}
use Rattle.slow_eval.proofs.grouping.with_keys.Given as goal

abbrev pub invariant-loop-row : goal.invariant-loop-row
invariant-loop-row l =
    ((before : List (List Value)) → l.initial.all ≡ distinct_keys before → l.all ≡ distinct_keys (before ++ map (key_of l.keys) (take l.row-index l.row-items)))
    × AreWide (length l.keys) l.all
