use Rattle.std.proofs.Common.{◌≡◌, take}
use Rattle.csv_cuts.specs.Places.{place_after}
use Rattle.csv_cuts.specs.declared.cuts.Place.TheVariants.{FieldStart}
use Rattle.csv_cuts.proofs.cuts.scan_line_end.Given as goal

abbrev pub invariant-loop-at : goal.invariant-loop-at
invariant-loop-at l = l.place ≡ place_after FieldStart (take l.at l.text)
