use Rattle.std.proofs.Common.{◌≡◌}
use Rattle.std.specs.Prelude.{flat_map}
use Rattle.tac_syntax.specs.Call.{Out, of_record}
use Rattle.pact_record.specs.Widths.{AreWide}
use Rattle.tac_interp.proofs.pairing.map_rows.Given as goal

abbrev pub invariant-loop-row : goal.invariant-loop-row
invariant-loop-row l =
    (l.out ≡ flat_map (λ row. Out l.f.fields l.f.function.body (of_record row)) l.yielded) × AreWide l.f.fields l.out
