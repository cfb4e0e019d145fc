-- Nodes in an array of fixed length.
use Rattle.std.specs.Prelude.{◌≡◌, ◌≤◌, ◌-◌, ℕ, List, ◌++◌, length, replicate, take}
use Rattle.plan_trees.specs.declared.preorders.Node.{Node}
use Rattle.plan_trees.specs.Plans.{node_limit}

-- the node in a place that isn't in use
abbrev pub blank : Node
blank = record { at = 0; count = 0 }

-- the nodes, and then blank ones
abbrev pub padded : List Node → List Node
padded xs = xs ++ replicate (node_limit - length xs) blank

-- the places hold `count` nodes, and then blank ones
pub record HoldsNodes (held : List Node) (count : ℕ) : Type 0 where
  pub few : count ≤ node_limit
  pub long : length held ≡ node_limit
  pub rest : padded (take count held) ≡ held
