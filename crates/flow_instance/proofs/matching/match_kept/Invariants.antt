use Rattle.std.proofs.Common.{take}
use Rattle.std.specs.Prelude.{flat_map}
use Rattle.std.specs.List.Sorted.{IsPermutation}
use Rattle.pact_bag.specs.Pairs.{matched}
use Rattle.tac_syntax.specs.Call.{Out, of_pair}
use Rattle.pact_record.specs.Widths.{AreWide}
use Rattle.flow_instance.proofs.matching.match_kept.Given as goal

abbrev pub invariant-loop-right : goal.invariant-loop-right
invariant-loop-right g l =
    IsPermutation (flat_map (λ right. flat_map (λ left. matched l.nulls (λ x y. Out l.f.fields l.f.function.body (of_pair x y)) (g.L.Local.key_fields l.kept) l.right_keys left right) (g.L.Local.rows l.kept)) (take l.right-index l.right-items)) l.out
    × AreWide l.f.fields l.out
