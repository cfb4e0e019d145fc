use Rattle.std.proofs.Common.{◌≡◌, ◌++◌, take}
use Rattle.std.specs.Prelude.{flat_map}
use Rattle.tac_syntax.specs.Call.{Out, of_pair}
use Rattle.pact_bag.specs.Pairs.{matched}
use Rattle.pact_record.specs.Widths.{AreWide}
use Rattle.tac_interp.proofs.pairing.append_pairs.Given as goal

abbrev pub invariant-loop-right : goal.invariant-loop-right
invariant-loop-right l =
    (l.out ≡ l.initial.out ++ flat_map (matched l.nulls (λ left right. Out l.f.fields l.f.function.body (of_pair left right)) l.left_keys l.right_keys l.left) (take l.right-index l.right-items))
    × AreWide l.f.fields l.out
