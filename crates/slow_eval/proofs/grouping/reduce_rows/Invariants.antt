use Rattle.std.proofs.Common.{◌≡◌, take}
use Rattle.std.specs.Prelude.{flat_map}
use Rattle.tac_syntax.specs.Call.{Out, of_group}
use Rattle.pact_bag.specs.Groups.{group_of_key}
use Rattle.pact_record.specs.Widths.{AreWide}
use Rattle.slow_eval.proofs.grouping.reduce_rows.Given as goal

abbrev pub invariant-loop-key : goal.invariant-loop-key
invariant-loop-key l =
    (l.out ≡ flat_map (λ key. Out l.f.fields l.f.function.body (of_group key (group_of_key l.keys l.rows key))) (take l.key-index l.key-items)) × AreWide l.f.fields l.out
