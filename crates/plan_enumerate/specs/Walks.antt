-- The walk over the exchanges of listed plans: what a step of it does, and how far it has come.
use Rattle.std.specs.Prelude.{◌≡◌, ◌<◌, ◌⊎◌, ℕ, Bool, true, false, List, [], ◌∷◌, ◌++◌, length, Some}
use Rattle.plan_trees.specs.Plans.{PlanTree}
use Rattle.pact_operators.specs.Programs.{ProgramData}
use Rattle.reorder_pair.specs.declared.legality.Condition.{Condition}
use Rattle.reorder_pair.specs.declared.rules.Rule.{Rule}
use Rattle.reorder_pair.specs.Legal.{IsConditionOf}
use Rattle.reorder_pair.specs.Rules.{swapped}
use Rattle.plan_enumerate.specs.declared.entries.Entry.{Entry}
use Rattle.plan_enumerate.specs.Listing.{AreListedBefore, Grows, IsListed, IsOpen}

-- ---- a step

-- the entry of what a legal exchange of the plan of entry `from` yields
pub record IsNeighbour (p : ProgramData) (plan : PlanTree) (from at : ℕ) (rule : Rule) (e : Entry) : Type 0 where
  pub by : Condition
  pub legal : IsConditionOf p plan at rule by
  pub is : e ≡ record { plan = swapped rule at plan; from = from; by = Some by }

-- An entry is added if its plan isn't listed and there is room; the result is false if it isn't listed and there is no
-- room.
abbrev pub Adds : ℕ → Entry → List Entry → List Entry → Bool → Type 0
Adds limit e old new true = (IsListed e.plan old × (new ≡ old)) ⊎ ((IsListed e.plan old → ⊥) × (length old < limit) × (new ≡ old ++ e ∷ []))
Adds limit e old new false = (IsListed e.plan old → ⊥) × (length old ≡ limit) × (new ≡ old)

-- ---- the way

-- The walk has come to a place: the list has grown, and what the exchanges before the place yield is listed.
pub record IsWalked (p : ProgramData) (limit : ℕ) (es : List Entry) (entry at n : ℕ) : Type 0 where
  pub grows : Grows p limit es
  pub before : AreListedBefore p es entry at n

-- The walk has stopped, since the list is full and a plan is left out.
pub record IsFull (p : ProgramData) (limit : ℕ) (es : List Entry) : Type 0 where
  pub grows : Grows p limit es
  pub full : length es ≡ limit
  pub left_out : IsOpen p es

abbrev pub GoesTo : ProgramData → ℕ → List Entry → (entry at n : ℕ) → Bool → Type 0
GoesTo p limit es entry at n true = IsWalked p limit es entry at n
GoesTo p limit es entry at n false = IsFull p limit es
