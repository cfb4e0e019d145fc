-- What a table of findings stores, and what is added to it.
use Rattle.std.specs.Prelude.{◌≡◌, ◌⊎◌, ◌++◌, ◌∷◌, [], ℕ, Bool, true, false, List, Option, Some, None, length, slice_get, take}
use Rattle.std.specs.List.{AllByRecursion}
use Rattle.tac_syntax.specs.declared.contexts.Context.{Context}
use Rattle.tac_syntax.specs.Valid.{WithFields}
use Rattle.tac_flow.specs.Sharing.{shared_context}
use Rattle.plan_trees.specs.Plans.{PlanTree}
use Rattle.pact_operators.specs.PlanOps.{function_in}
use Rattle.pact_operators.specs.Programs.{ProgramData}
use Rattle.reorder_pair.specs.declared.finding.Found.{Found}
use Rattle.reorder_pair.specs.declared.finding.Neighbours.{Neighbours}
use Rattle.reorder_pair.specs.declared.findings.OperatorIn.{OperatorIn}
use Rattle.reorder_pair.specs.declared.rules.Rule.{Rule}
use Rattle.reorder_pair.specs.Corners.{corner, has_corners}
use Rattle.reorder_pair.specs.Places.{AreNeighbours, IsFoundFor, IsUnionOf}

abbrev pub IsFinding : ProgramData → OperatorIn × Found → Type 0
IsFinding p row = IsFoundFor p row.0.at row.0.context row.1

-- each row has the finding about its operator in its context
abbrev pub AreFindings : ProgramData → List (OperatorIn × Found) → Type 0
AreFindings p rows = AllByRecursion (IsFinding p) rows

-- some row is for the operator in that context
abbrev pub IsKept : OperatorIn → List (OperatorIn × Found) → Type 0
IsKept placed [] = ⊥
IsKept placed (row ∷ rows) = (row.0 ≡ placed) ⊎ IsKept placed rows

abbrev pub corner_place : ProgramData → ℕ → Bool → Bool → Context → OperatorIn
corner_place p n l r c = record { at = n; context = corner p.fields l r c }

abbrev pub corner_places : ProgramData → ℕ → Context → List OperatorIn
corner_places p n c = corner_place p n false false c ∷ corner_place p n true false c ∷ corner_place p n false true c ∷ corner_place p n true true c ∷ []

-- The rows for an operator in a context: those of its corners, if it has any, and otherwise one row, for the context
-- that its function shares with others.
abbrev pub kept_by : Bool → ProgramData → WithFields → ℕ → Context → List OperatorIn
kept_by true p f n c = corner_places p n c
kept_by false p f n c = record { at = n; context = shared_context f c } ∷ []

abbrev pub kept_for : Option WithFields → ProgramData → ℕ → Context → List OperatorIn
kept_for (Some f) p n c = kept_by (has_corners f) p f n c
kept_for None p n c = []

abbrev pub kept_under : ProgramData → ℕ → Context → List OperatorIn
kept_under p n c = kept_for (slice_get p.functions (function_in (slice_get p.ops n))) p n c

-- The new table has a row for the operator in that context: if the old one had it, the table is unchanged, and
-- otherwise the row was appended.
abbrev pub Keeps : OperatorIn → Found → List (OperatorIn × Found) → List (OperatorIn × Found) → Type 0
Keeps placed s old new = (IsKept placed old × (new ≡ old)) ⊎ ((IsKept placed old → ⊥) × (new ≡ old ++ (placed, s) ∷ []))

-- the table has a row for each of these; missing ones were appended in this order
abbrev pub KeepsEach : List OperatorIn → List (OperatorIn × Found) → List (OperatorIn × Found) → Type 0
KeepsEach [] old new = new ≡ old
KeepsEach (placed ∷ rest) old new = (s : Found) × (between : List (OperatorIn × Found)) × Keeps placed s old between × KeepsEach rest between new

-- the old rows are still the first ones
abbrev pub BeginsWith : List (OperatorIn × Found) → List (OperatorIn × Found) → Type 0
BeginsWith old new = take (length old) new ≡ old

-- the rows for an operator in the context that it has in a plan
pub record KeepsInPlan (p : ProgramData) (plan : PlanTree) (at : ℕ) (old new : List (OperatorIn × Found)) : Type 0 where
  pub context : Context
  pub union : IsUnionOf p at plan plan context
  pub keeps : KeepsEach (kept_under p at context) old new

-- the rows for the two operators that a rule exchanges at a place, the upper one's first
pub record KeepsBoth (p : ProgramData) (plan : PlanTree) (at : ℕ) (rule : Rule) (old new : List (OperatorIn × Found)) : Type 0 where
  pub both : Neighbours
  pub are : AreNeighbours p plan at rule both
  pub between : List (OperatorIn × Found)
  pub of_upper : KeepsEach (kept_under p both.upper both.upper_context) old between
  pub of_lower : KeepsEach (kept_under p both.lower both.lower_context) between new
