-- Plans as trees of the operators and sources of a program.
use Rattle.std.specs.Prelude.{◌<◌, ◌==◌, ◌||◌, ℕ, Bool, if◌then◌else◌, Option, Some, None, List, [], ◌∷◌, ◌++◌}
use Rattle.std.specs.List.{AllByRecursion}
use Rattle.plan_trees.specs.Distinct.{AreDifferent}

-- Numbers represent operators and sources: the text's first has 0, and so on, both kinds counted together.
pub data PlanTree : Type 0 where
  leaf : (at : ℕ) → PlanTree
  over : (at : ℕ) → (input : PlanTree) → PlanTree
  both : (at : ℕ) → (left right : PlanTree) → PlanTree

-- 16 operators, and 17 sources
abbrev pub node_limit : ℕ
node_limit = 33

-- the number at the root, whose output is the plan's
abbrev pub root_of : PlanTree → ℕ
root_of (leaf n) = n
root_of (over n t) = n
root_of (both n t u) = n

-- the numbers in preorder: each operator's before those of its inputs
abbrev pub nodes : PlanTree → List ℕ
nodes (leaf n) = n ∷ []
nodes (over n t) = n ∷ nodes t
nodes (both n t u) = n ∷ (nodes t ++ nodes u)

-- whether the number is one of the tree's
abbrev pub has : ℕ → PlanTree → Bool
has at (leaf n) = at == n
has at (over n t) = (at == n) || has at t
has at (both n t u) = (at == n) || (has at t || has at u)

-- the tree whose root has the number
abbrev pub subtree_of : ℕ → PlanTree → PlanTree
subtree_of at (leaf n) = leaf n
subtree_of at (over n t) = if at == n then over n t else subtree_of at t
subtree_of at (both n t u) = if at == n then both n t u else (if has at t then subtree_of at t else subtree_of at u)

-- the tree in which a new one replaces the subtree whose root has the number
abbrev pub replaced : ℕ → PlanTree → PlanTree → PlanTree
replaced at new (leaf n) = if at == n then new else leaf n
replaced at new (over n t) = if at == n then new else over n (replaced at new t)
replaced at new (both n t u) =
    if at == n then new else (if has at t then both n (replaced at new t) u else both n t (replaced at new u))

-- the number of the root's input at a port: 0 is its only or its left input, 1 the right one
abbrev pub root_input_of : ℕ → PlanTree → Option ℕ
root_input_of port (leaf n) = None
root_input_of port (over n t) = if port == 0 then Some (root_of t) else None
root_input_of port (both n t u) = if port == 0 then Some (root_of t) else (if port == 1 then Some (root_of u) else None)

-- the number of an operator's input at a port
abbrev pub input_of : ℕ → ℕ → PlanTree → Option ℕ
input_of at port t = root_input_of port (subtree_of at t)

-- each number is one that a program can have, and occurs once
pub record IsPlan (tree : PlanTree) : Type 0 where
  pub below : AllByRecursion (λ n. n < node_limit) (nodes tree)
  pub different : AreDifferent (nodes tree)
