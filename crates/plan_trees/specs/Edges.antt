-- The edges of one plan within another, and the inputs of a tree there.
use Rattle.std.specs.Prelude.{◌≡◌, ◌≢◌, ◌<◌, ℕ, true}
use Rattle.plan_trees.specs.declared.plans.Parts.{Parts}
use Rattle.plan_trees.specs.declared.plans.Parts.TheVariants.{Alone, OverOne, OverTwo}
use Rattle.plan_trees.specs.Plans.{PlanTree, has, root_of}
use Rattle.plan_trees.specs.Preorders.{count_of}

-- the edges within a tree are edges within another
abbrev pub EdgesLieIn : PlanTree → PlanTree → Type 0
EdgesLieIn t whole = (k : ℕ) → has k t ≡ true → k ≢ root_of t → (has k whole ≡ true) × (k ≢ root_of whole)

-- an input of a tree: it is smaller, its edges lie in the whole plan, and so does the edge that it leaves
pub record IsInner (whole s t : PlanTree) : Type 0 where
  pub less : count_of t < count_of s
  pub lies : EdgesLieIn t whole
  pub there : has (root_of t) whole ≡ true
  pub edge : root_of t ≢ root_of whole

-- each input among the parts of a tree is one of its inner inputs
abbrev pub AreInner : PlanTree → PlanTree → Parts → Type 0
AreInner whole s (Alone n) = Unit {0}
AreInner whole s (OverOne n t) = IsInner whole s t
AreInner whole s (OverTwo n t u) = IsInner whole s t × IsInner whole s u
