-- Hash tables of names.
use Rattle.std.specs.Prelude.{◌≡◌, ℕ, zero, suc, Bool, true, false, List, Option, Some, None, bytes_eq}
use Rattle.std.specs.Borrow.{Bor}
use Rattle.indexmap.specs.IndexMap.{IndexMap, get_by}
use Rattle.pact_operators.specs.Resolved.{times_among}

-- the mark of a name that occurs this many times: None if never, and otherwise whether it occurs more than once
abbrev pub mark_of : ℕ → Option Bool
mark_of zero = None
mark_of (suc zero) = Some false
mark_of (suc (suc n)) = Some true

abbrev pub IsTableOf : {S : Type 0} → List (List ℕ) → IndexMap (Bor (List ℕ)) Bool S → Type 0
IsTableOf names marks = (name : List ℕ) → get_by (λ k. bytes_eq name k.now) marks ≡ mark_of (times_among name names)
