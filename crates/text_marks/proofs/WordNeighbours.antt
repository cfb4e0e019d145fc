-- Words between their neighbours.
use Rattle.std.proofs.Common.{◌≡◌, ℕ, List, [], ◌∷◌, ◌++◌, refl, not}
use Rattle.text_marks.specs.TextParts.{joins, is_gap}

pub joins_last : (front : List ℕ) (b : ℕ) → joins (front ++ b ∷ []) ≡ not (is_gap b)
joins_last [] b = refl
joins_last (x ∷ []) b = refl
joins_last (x ∷ y ∷ front) b = joins_last (y ∷ front) b
