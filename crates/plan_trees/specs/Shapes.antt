-- The root of a tree changes places with an operator that it reads.
use Rattle.plan_trees.specs.declared.shapes.Shape.{Shape}
use Rattle.plan_trees.specs.declared.shapes.Shape.TheVariants.{OneOverOne, IntoLeft, OutOfLeft, IntoRight, OutOfRight, ToRight, ToLeft}
use Rattle.plan_trees.specs.Plans.{PlanTree, over, both}

-- whether the two operators of the shape are at the tree's root
abbrev pub HasShape : Shape → PlanTree → Type 0
HasShape OneOverOne (over f (over g t)) = Unit {0}
HasShape IntoLeft (over f (both g t u)) = Unit {0}
HasShape OutOfLeft (both g (over f t) u) = Unit {0}
HasShape IntoRight (over f (both g t u)) = Unit {0}
HasShape OutOfRight (both g t (over f u)) = Unit {0}
HasShape ToRight (both h (both g t u) w) = Unit {0}
HasShape ToLeft (both g t (both h u w)) = Unit {0}
HasShape shape tree = ⊥

-- the tree after the exchange; one of another shape stays as it is
abbrev pub exchanged : Shape → PlanTree → PlanTree
exchanged OneOverOne (over f (over g t)) = over g (over f t)
exchanged IntoLeft (over f (both g t u)) = both g (over f t) u
exchanged OutOfLeft (both g (over f t) u) = over f (both g t u)
exchanged IntoRight (over f (both g t u)) = both g t (over f u)
exchanged OutOfRight (both g t (over f u)) = over f (both g t u)
exchanged ToRight (both h (both g t u) w) = both g t (both h u w)
exchanged ToLeft (both g t (both h u w)) = both h (both g t u) w
exchanged shape tree = tree
