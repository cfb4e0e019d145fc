use Rattle.std.proofs.Common.{◌≡◌, take}
use Rattle.tac_syntax.specs.Call.{Out, of_pair}
use Rattle.pact_bag.specs.Pairs.{crossed, matched}
use Rattle.pact_record.specs.Widths.{AreWide}
use Rattle.tac_interp.proofs.pairing.match_rows.Given as goal

abbrev pub invariant-loop-left : goal.invariant-loop-left
invariant-loop-left l =
    (l.out ≡ crossed (matched l.nulls (λ left right. Out l.f.fields l.f.function.body (of_pair left right)) l.left_keys l.right_keys) (take l.left-index l.left-items) l.rights)
    × AreWide l.f.fields l.out
