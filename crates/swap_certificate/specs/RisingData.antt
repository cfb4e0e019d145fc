-- The array of a set, in the form in which the reader checks it.
use Rattle.std.specs.Prelude.{◌≡◌, ◌≤◌, ◌<◌, ◌+◌, ℕ, List, [], ◌∷◌, ⊤}
use Rattle.serde_json.specs.Data.{Data}
use Rattle.swap_certificate.specs.Shape.{whole}

-- strictly rising fields below `most`, the first of which is at least `least`
abbrev pub RisesFrom : ℕ → ℕ → List Data → Type 0
RisesFrom most least [] = ⊤
RisesFrom most least (d ∷ ds) = (field : ℕ) × (d ≡ whole field) × (least ≤ field) × (field < most) × RisesFrom most (field + 1) ds
