-- What follows a round.
use Rattle.std.specs.Prelude.{◌≡◌, Bool, true, List, Option, Some, None}
use Rattle.pact_record.specs.declared.columns.Column.{Column}
use Rattle.pact_operators.specs.Allowed.{Bag}
use Rattle.iterate_plan.specs.Rounds.{IsStable, cut_to}

-- nothing if the round is stable and the iteration may end early, and its bag, cut, otherwise
abbrev pub AreNextRows : List Column → Bag → Bag → (stable : Bool) → Option Bag → Type 0
AreNextRows columns rows bag stable None = (stable ≡ true) × IsStable columns rows bag
AreNextRows columns rows bag stable (Some next) = (next ≡ cut_to columns bag) × (stable ≡ true → IsStable columns rows bag → ⊥)
