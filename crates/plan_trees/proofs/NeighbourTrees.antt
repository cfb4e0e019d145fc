-- If two neighbours change places: the tree of the lower one before it, and the tree of the upper one after it.
use Rattle.std.proofs.Common.{◌≡◌, ◌==◌, inl, inr, ℕ, false, arith}
use Rattle.std.proofs.lemmas.Bool.{cases_Bool}
use Rattle.std.proofs.lemmas.Bool.Decides.{nat_tests}
use Rattle.plan_trees.specs.Distinct.{AreDifferent, IsAbsent}
use Rattle.plan_trees.specs.Plans.{PlanTree, leaf, over, both, has, nodes, root_of, subtree_of}
use Rattle.plan_trees.specs.Shapes.{HasShape, exchanged}
use Rattle.plan_trees.specs.declared.shapes.Shape.{Shape}
use Rattle.plan_trees.specs.declared.shapes.Shape.TheVariants.{OneOverOne, IntoLeft, OutOfLeft, IntoRight, OutOfRight, ToRight, ToLeft}
use Rattle.plan_trees.proofs.DifferentNumbers.{AreDifferent-parts, IsAbsent-left, IsAbsent-right}
use Rattle.plan_trees.proofs.ExchangedTrees.{exchanged-nodes}
use Rattle.plan_trees.proofs.NodesOfTrees.{nodes-has, root-nodes}
use Rattle.plan_trees.proofs.PermutedNodes.{different_perm}
use Rattle.plan_trees.proofs.SubtreesOfPlans.{has-root, subtree_of-root}

-- the tree of the lower operator before the exchange
abbrev pub lower_tree : Shape → PlanTree → PlanTree
lower_tree OneOverOne (over f (over g t)) = over g t
lower_tree IntoLeft (over f (both g t u)) = both g t u
lower_tree OutOfLeft (both g (over f t) u) = over f t
lower_tree IntoRight (over f (both g t u)) = both g t u
lower_tree OutOfRight (both g t (over f u)) = over f u
lower_tree ToRight (both h (both g t u) w) = both g t u
lower_tree ToLeft (both g t (both h u w)) = both h u w
lower_tree s t = t

-- the tree of the upper operator after it
abbrev pub upper_tree : Shape → PlanTree → PlanTree
upper_tree OneOverOne (over f (over g t)) = over f t
upper_tree IntoLeft (over f (both g t u)) = over f t
upper_tree OutOfLeft (both g (over f t) u) = both g t u
upper_tree IntoRight (over f (both g t u)) = over f u
upper_tree OutOfRight (both g t (over f u)) = both g t u
upper_tree ToRight (both h (both g t u) w) = both h u w
upper_tree ToLeft (both g t (both h u w)) = both g t u
upper_tree s t = t

-- ---- the inputs of a root are the subtrees at their roots

another : (n : ℕ) (t : PlanTree) → IsAbsent n (nodes t) → (root_of t == n) ≡ false
another n (leaf m) a = let differ = a.0 in grind (arith, nat_tests)
another n (over m t) a = let differ = a.0 in grind (arith, nat_tests)
another n (both m t u) a = let differ = a.0 in grind (arith, nat_tests)

subtree_of-input : (n : ℕ) (t : PlanTree) → AreDifferent (nodes (over n t)) → subtree_of (root_of t) (over n t) ≡ t
subtree_of-input n t d = rw (another n t d.0) (subtree_of-root t)

subtree_of-left : (n : ℕ) (t u : PlanTree) → AreDifferent (nodes (both n t u)) → subtree_of (root_of t) (both n t u) ≡ t
subtree_of-left n t u d = rw (another n t (IsAbsent-left n (nodes t) (nodes u) d.0), has-root t) (subtree_of-root t)

-- the root of the right input isn't a number of the left one
not_left : (n : ℕ) (t u : PlanTree) → AreDifferent (nodes (both n t u)) → has (root_of u) t ≡ false
not_left n t u d = elim (cases_Bool (has (root_of u) t)) as (λ _. has (root_of u) t ≡ false) [
  | inl h ↦ absurd ((AreDifferent-parts (nodes t) (nodes u) d.1).2 (root_of u) (nodes-has (root_of u) t h) (root-nodes u))
  | inr h ↦ h
]

subtree_of-right : (n : ℕ) (t u : PlanTree) → AreDifferent (nodes (both n t u)) → subtree_of (root_of u) (both n t u) ≡ u
subtree_of-right n t u d = rw (another n u (IsAbsent-right n (nodes t) (nodes u) d.0), not_left n t u d) (subtree_of-root u)

-- ---- the two neighbours

pub subtree_of-lower : (s : Shape) (t : PlanTree) → AreDifferent (nodes t) → HasShape s t → subtree_of (root_of (exchanged s t)) t ≡ lower_tree s t
subtree_of-lower OneOverOne (over f (over g t)) d h = subtree_of-input f (over g t) d
subtree_of-lower IntoLeft (over f (both g t u)) d h = subtree_of-input f (both g t u) d
subtree_of-lower OutOfLeft (both g (over f t) u) d h = subtree_of-left g (over f t) u d
subtree_of-lower IntoRight (over f (both g t u)) d h = subtree_of-input f (both g t u) d
subtree_of-lower OutOfRight (both g t (over f u)) d h = subtree_of-right g t (over f u) d
subtree_of-lower ToRight (both h (both g t u) w) d x = subtree_of-left h (both g t u) w d
subtree_of-lower ToLeft (both g t (both h u w)) d x = subtree_of-right g t (both h u w) d
subtree_of-lower s t d h = absurd h

after : (s : Shape) (t : PlanTree) → AreDifferent (nodes t) → AreDifferent (nodes (exchanged s t))
after s t d = different_perm (exchanged-nodes s t) d

pub subtree_of-upper : (s : Shape) (t : PlanTree) → AreDifferent (nodes t) → HasShape s t → subtree_of (root_of t) (exchanged s t) ≡ upper_tree s t
subtree_of-upper OneOverOne (over f (over g t)) d h = subtree_of-input g (over f t) (after OneOverOne (over f (over g t)) d)
subtree_of-upper IntoLeft (over f (both g t u)) d h = subtree_of-left g (over f t) u (after IntoLeft (over f (both g t u)) d)
subtree_of-upper OutOfLeft (both g (over f t) u) d h = subtree_of-input f (both g t u) (after OutOfLeft (both g (over f t) u) d)
subtree_of-upper IntoRight (over f (both g t u)) d h = subtree_of-right g t (over f u) (after IntoRight (over f (both g t u)) d)
subtree_of-upper OutOfRight (both g t (over f u)) d h = subtree_of-input f (both g t u) (after OutOfRight (both g t (over f u)) d)
subtree_of-upper ToRight (both h (both g t u) w) d x = subtree_of-right g t (both h u w) (after ToRight (both h (both g t u) w) d)
subtree_of-upper ToLeft (both g t (both h u w)) d x = subtree_of-left h (both g t u) w (after ToLeft (both g t (both h u w)) d)
subtree_of-upper s t d h = absurd h
