-- Lists in which no number occurs twice.
use Rattle.std.specs.Prelude.{◌≢◌, ℕ, List, [], ◌∷◌}

-- the number isn't in the list
abbrev pub IsAbsent : ℕ → List ℕ → Type 0
IsAbsent n [] = Unit {0}
IsAbsent n (m ∷ ms) = (n ≢ m) × IsAbsent n ms

-- no number occurs twice
abbrev pub AreDifferent : List ℕ → Type 0
AreDifferent [] = Unit {0}
AreDifferent (n ∷ ns) = IsAbsent n ns × AreDifferent ns
