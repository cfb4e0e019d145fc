-- The numbers of the command that words ask for are in their ranges.
use Rattle.std.proofs.Common.{ℕ, List}
use Rattle.pact_words.specs.Words.{Asked, IsAsked, IsInRange}
use Rattle.pact_words.proofs.TakenWords.{taken_in_range}

pub in_range : (words : List (List ℕ)) (a : Asked) → IsAsked words a → IsInRange a
in_range words a h = taken_in_range h.kind words a h.taken h.values
