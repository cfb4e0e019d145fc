use Rattle.std.proofs.Common.{◌≡◌, ◌++◌, take}
use Rattle.std.specs.Prelude.{flat_map}
use Rattle.tac_syntax.specs.Call.{Out, of_pair}
use Rattle.pact_record.specs.Widths.{AreWide}
use Rattle.flow_instance.proofs.matching.append_pairs.Given as goal

abbrev pub invariant-loop-left : goal.invariant-loop-left
invariant-loop-left l =
    (l.out ≡ l.initial.out ++ flat_map (λ left. Out l.f.fields l.f.function.body (of_pair left l.right)) (take l.left-index l.left-items)) × AreWide l.f.fields l.out
