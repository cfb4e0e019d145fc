use Rattle.std.proofs.Common.{◌≡◌, drop}
use Rattle.std.specs.List.{list_any}
use Rattle.pact_bag.specs.Groups.{is_same_key}
use Rattle.pact_record.specs.Record.{key_of}
use Rattle.slow_eval.proofs.grouping.is_known.Given as goal

abbrev pub invariant-loop-key : goal.invariant-loop-key
invariant-loop-key l = list_any (λ key. is_same_key key (key_of l.keys l.row)) l.found ≡ list_any (λ key. is_same_key key (key_of l.keys l.row)) (drop l.key-index l.found)
