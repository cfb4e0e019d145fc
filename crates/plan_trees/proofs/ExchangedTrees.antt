-- A tree in which two neighbours have changed places has the same nodes, and it is a plan if the tree was one.
use Rattle.std.proofs.Common.{◌≡◌, ℕ, true, List, ◌∷◌, ◌++◌, append_assoc, subst, sym}
use Rattle.pact_record.proofs.Permutations.{Perm, keeps, swaps, chains, same, turned, middle, is_same}
use Rattle.plan_trees.specs.Plans.{PlanTree, over, both, has, nodes, replaced, root_of, subtree_of, IsPlan}
use Rattle.plan_trees.specs.Shapes.{exchanged}
use Rattle.plan_trees.specs.declared.shapes.Shape.{Shape}
use Rattle.plan_trees.specs.declared.shapes.Shape.TheVariants.{OneOverOne, IntoLeft, OutOfLeft, IntoRight, OutOfRight, ToRight, ToLeft}
use Rattle.plan_trees.proofs.InPlace.{in_place}
use Rattle.plan_trees.proofs.PermutedNodes.{has_perm, nodes_kept, plan_perm}
use Rattle.plan_trees.proofs.SubtreesOfPlans.{has-root}

-- ---- nodes

into_right_nodes : (f g : ℕ) (t u : List ℕ) → Perm (f ∷ g ∷ (t ++ u)) (g ∷ (t ++ (f ∷ u)))
into_right_nodes f g t u = chains swaps (keeps (middle f t u))

to_right_nodes : (h g : ℕ) (t u w : List ℕ) → Perm (h ∷ ((g ∷ (t ++ u)) ++ w)) (g ∷ (t ++ (h ∷ (u ++ w))))
to_right_nodes h g t u w = chains swaps (keeps (chains (keeps (is_same (append_assoc t u w))) (middle h t (u ++ w))))

pub exchanged-nodes : (s : Shape) (t : PlanTree) → Perm (nodes t) (nodes (exchanged s t))
exchanged-nodes OneOverOne (over f (over g t)) = swaps
exchanged-nodes IntoLeft (over f (both g t u)) = swaps
exchanged-nodes OutOfLeft (both g (over f t) u) = swaps
exchanged-nodes IntoRight (over f (both g t u)) = into_right_nodes f g (nodes t) (nodes u)
exchanged-nodes OutOfRight (both g t (over f u)) = turned (into_right_nodes f g (nodes t) (nodes u))
exchanged-nodes ToRight (both h (both g t u) w) = to_right_nodes h g (nodes t) (nodes u) (nodes w)
exchanged-nodes ToLeft (both g t (both h u w)) = turned (to_right_nodes h g (nodes t) (nodes u) (nodes w))
exchanged-nodes s t = same (nodes t)

-- the root of either tree is a node of the other
pub has-exchanged_root : (s : Shape) (t : PlanTree) → has (root_of (exchanged s t)) t ≡ true
has-exchanged_root s t = has_perm (root_of (exchanged s t)) (exchanged s t) t (turned (exchanged-nodes s t)) (has-root (exchanged s t))

pub exchanged-has_root : (s : Shape) (t : PlanTree) → has (root_of t) (exchanged s t) ≡ true
exchanged-has_root s t = has_perm (root_of t) t (exchanged s t) (exchanged-nodes s t) (has-root t)

-- ---- plans

pub exchanged-IsPlan : (s : Shape) (t : PlanTree) → IsPlan t → IsPlan (exchanged s t)
exchanged-IsPlan s t h = plan_perm t (exchanged s t) (exchanged-nodes s t) h

-- the lemma above for a tree that is given by an equation
pub exchanged-IsPlan-of : (s : Shape) (t u : PlanTree) → t ≡ u → IsPlan t → IsPlan (exchanged s u)
exchanged-IsPlan-of s t u e h = exchanged-IsPlan s u (subst IsPlan e h)

pub replaced-IsPlan : (s : Shape) (at : ℕ) (t new : PlanTree) → has at t ≡ true → new ≡ exchanged s (subtree_of at t) → IsPlan t → IsPlan (replaced at new t)
replaced-IsPlan s at t new h e p =
    let below = subst (λ (u : PlanTree). Perm (nodes (subtree_of at t)) (nodes u)) (sym e) (exchanged-nodes s (subtree_of at t)) in
    plan_perm t (replaced at new t) (in_place (λ a b. Perm (nodes a) (nodes b)) nodes_kept at new t h below) p
