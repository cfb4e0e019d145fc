-- A plan as rows, each operator after its inputs.
use Rattle.std.specs.Prelude.{◌≡◌, ◌<◌, ℕ, List, Option, Some, None, slice_get}
use Rattle.cost_model.specs.Estimates.{estimate}
use Rattle.plan_trees.specs.Plans.{PlanTree, leaf, over, both}
use Rattle.pact_operators.specs.Programs.{ProgramData}
use Rattle.ship_strategy.specs.Facts.{Facts, NodeFacts}
use Rattle.ship_strategy.specs.Views.{known_of}
use Rattle.ship_strategy.specs.declared.ways.Way.{Way}
use Rattle.plan_enumerate.specs.declared.plan_rows.Input.{Input}
use Rattle.plan_enumerate.specs.declared.plan_rows.Reads.{Reads}
use Rattle.plan_enumerate.specs.declared.plan_rows.Reads.TheVariants.{Nothing, One, Two}
use Rattle.plan_enumerate.specs.declared.plan_rows.Row.{Row}
use Rattle.plan_enumerate.specs.declared.weights.Weight.{Weight}
use Rattle.plan_enumerate.specs.Weights.{source_weight, weight_both, weight_over, weighed}

-- the row is that of an operator with these facts
pub record IsRowOf (f : Facts) (n : ℕ) (x : Row) : Type 0 where
  pub at : x.at ≡ n
  pub facts : known_of x.facts ≡ f n

-- an input whose tree is at an earlier row
abbrev pub input_at : ProgramData → List ℕ → ℕ → PlanTree → Input
input_at p counts row t = record { row = row; records = estimate p counts t }

-- the rows hold the tree, with its root at this one
abbrev pub Holds : ProgramData → List ℕ → Facts → List Row → ℕ → PlanTree → Type 0
Holds p counts f rows i (leaf n) = (x : Row) × (slice_get rows i ≡ Some x) × (x.reads ≡ Nothing)
Holds p counts f rows i (over n t) =
    (x : Row) × (slice_get rows i ≡ Some x) × IsRowOf f n x × ((j : ℕ) × (j < i) × (x.reads ≡ One (input_at p counts j t)) × Holds p counts f rows j t)
Holds p counts f rows i (both n t u) =
    (x : Row) × (slice_get rows i ≡ Some x) × IsRowOf f n x
    × ((j : ℕ) × (k : ℕ) × (j < i) × (k < i) × (x.reads ≡ Two (input_at p counts j t) (input_at p counts k u)) × Holds p counts f rows j t × Holds p counts f rows k u)

-- ---- the weights of rows

abbrev pub weight_in : Option Weight → Weight
weight_in None = source_weight
weight_in (Some weight) = weight

-- the weight of a row, by those of the rows before it
abbrev pub weight_of_reads : NodeFacts → Way → ℕ → (ℕ → Weight) → Reads → Weight
weight_of_reads x way workers before Nothing = source_weight
weight_of_reads x way workers before (One input) = weight_over x workers input.records (before input.row)
weight_of_reads x way workers before (Two left right) = weight_both x way workers left.records right.records (before left.row) (before right.row)

abbrev pub row_weight : (ℕ → Way) → ℕ → (ℕ → Weight) → Row → Weight
row_weight w workers before x = weight_of_reads (known_of x.facts) (w x.at) workers before x.reads

-- the weights of the rows before this one are those of the trees at them
abbrev pub AreWeighed : ProgramData → List ℕ → ℕ → Facts → (ℕ → Way) → List Row → List Weight → ℕ → Type 0
AreWeighed p counts workers f w rows weights i =
    (j : ℕ) → j < i → (t : PlanTree) → Holds p counts f rows j t → weight_in (slice_get weights j) ≡ weighed p counts workers f w t
