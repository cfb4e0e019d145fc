-- Plans as lists of nodes, each operator before its inputs.
use Rattle.std.specs.Prelude.{◌≡◌, ◌+◌, ◌==◌, ℕ, if◌then◌else◌, List, [], ◌∷◌, ◌++◌}
use Rattle.plan_trees.specs.declared.preorders.Node.{Node}
use Rattle.plan_trees.specs.Plans.{PlanTree, leaf, over, both, IsPlan}

-- how many nodes a tree has
abbrev pub count_of : PlanTree → ℕ
count_of (leaf n) = 1
count_of (over n t) = 1 + count_of t
count_of (both n t u) = 1 + (count_of t + count_of u)

-- each node with the count of the tree of which it is the root
abbrev pub preorder_of : PlanTree → List Node
preorder_of (leaf n) = record { at = n; count = 1 } ∷ []
preorder_of (over n t) = record { at = n; count = 1 + count_of t } ∷ preorder_of t
preorder_of (both n t u) = record { at = n; count = 1 + (count_of t + count_of u) } ∷ (preorder_of t ++ preorder_of u)

-- a node over the two trees after it
abbrev paired : ℕ → PlanTree → List PlanTree → List PlanTree
paired n t [] = over n t ∷ []
paired n t (u ∷ rest) = both n t u ∷ rest

-- a node over as many of the trees after it as make up its count
abbrev pub joined : Node → List PlanTree → List PlanTree
joined x [] = leaf x.at ∷ []
joined x (t ∷ rest) =
    if x.count == 1 then leaf x.at ∷ t ∷ rest else (if x.count == 1 + count_of t then over x.at t ∷ rest else paired x.at t rest)

-- the trees that the nodes represent, one after the other
abbrev pub trees_of : List Node → List PlanTree
trees_of [] = []
trees_of (x ∷ xs) = joined x (trees_of xs)

-- the first of them
abbrev first_of : List PlanTree → PlanTree
first_of [] = leaf 0
first_of (t ∷ rest) = t

-- the tree that the nodes represent
abbrev pub tree_of : List Node → PlanTree
tree_of xs = first_of (trees_of xs)

-- the nodes are those of a plan
pub record ShowsPlan (xs : List Node) : Type 0 where
  pub shown : preorder_of (tree_of xs) ≡ xs
  pub plan : IsPlan (tree_of xs)
