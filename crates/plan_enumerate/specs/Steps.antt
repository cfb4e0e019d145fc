-- How the plan of an entry came about.
use Rattle.std.specs.Prelude.{◌≡◌, ℕ, List, [], ◌∷◌, ◌++◌, slice_get, Some}
use Rattle.reorder_pair.specs.declared.legality.Condition.{Condition}
use Rattle.plan_enumerate.specs.declared.entries.Entry.{Entry}

-- the exchanges from the first entry to another, in their order
pub data AreStepsTo (es : List Entry) : ℕ → List Condition → Type 0 where
  none : AreStepsTo es 0 []
  behind : (n : ℕ) (e : Entry) (c : Condition) (cs : List Condition) → slice_get es n ≡ Some e → e.by ≡ Some c → AreStepsTo es e.from cs → AreStepsTo es n (cs ++ c ∷ [])
