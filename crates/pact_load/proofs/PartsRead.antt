-- How far the reading of a file has come.
use Rattle.std.specs.Prelude.{◌≡◌, ◌≤◌, ◌+◌, ℕ, true, List, length, take, drop, Option, Some, None, IfSome}
use Rattle.pact_outside.specs.Outside.{Feeding}
use Rattle.pact_load.specs.Pieces.{ReadsOn}

-- these bytes were read since the start, and the rest is left
pub record HasReadSo (first now : Option (List ℕ)) (read : List ℕ) : Type 0 where
  pub told : IfSome first (λ all. (now ≡ Some (drop (length read) all)) × (read ≡ take (length read) all) × (length read ≤ length all))
  pub untold : first ≡ None → now ≡ None

-- the invariant of the loop over the pieces of a file
pub record IsReading (first now : Feeding) (read : List ℕ) (limit : ℕ) : Type 0 where
  pub read_so_far : HasReadSo first.left now.left read
  pub within : length read ≤ limit + 1
  pub opened : now.is_open ≡ true
  pub on : ReadsOn first now
