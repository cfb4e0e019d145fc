-- A plan has at most 33 nodes.
use Rattle.std.proofs.Common.{◌≡◌, ◌≤◌, ◌<◌, inl, inr, ℕ, true, false, eqb, List, [], ◌∷◌, length, refl, arith, length-append}
use Rattle.std.specs.List.{AllByRecursion, IsDistinct, list_any}
use Rattle.std.proofs.lemmas.Bool.Decides.{nat_tests, eqb_tells}
use Rattle.std.proofs.lemmas.Map.Steps.{length-le_from_distinct_below}
use Rattle.plan_trees.specs.Distinct.{IsAbsent, AreDifferent}
use Rattle.plan_trees.specs.Plans.{PlanTree, leaf, over, both, node_limit, nodes, IsPlan}
use Rattle.plan_trees.specs.Preorders.{count_of}

none_equal : (n : ℕ) (ms : List ℕ) → IsAbsent n ms → AllByRecursion (λ m. eqb n m ≡ false) ms
none_equal n [] h = tt
none_equal n (m ∷ ms) h = (let p = h.0 in grind (arith, nat_tests), none_equal n ms h.1)

distinct : (ns : List ℕ) → AreDifferent ns → IsDistinct eqb ns
unfolding IsDistinct
distinct [] h = tt
distinct (n ∷ ns) h = (none_equal n ns h.0, distinct ns h.1)

each_below : (ns : List ℕ) (bound q : ℕ) → AllByRecursion (λ n. n < bound) ns → list_any (eqb q) ns ≡ true → q < bound
each_below [] bound q h p = cc
each_below (n ∷ ns) bound q h p = elim (eqb_tells q n) as (λ _. q < bound) [
  | inl e ↦ (let below = h.0 in let same = e.1 in omega arith)
  | inr e ↦ each_below ns bound q h.1 (simp e.0 at p)
]

length-nodes : (t : PlanTree) → length (nodes t) ≡ count_of t
length-nodes (leaf n) = refl
length-nodes (over n t) = omega (arith, length-nodes t)
length-nodes (both n t u) = omega (arith, length-nodes t, length-nodes u, length-append (nodes t) (nodes u))

pub few_nodes : (t : PlanTree) → IsPlan t → count_of t ≤ node_limit
few_nodes t h =
    let few = length-le_from_distinct_below (nodes t) node_limit (distinct (nodes t) h.different) (λ q p. each_below (nodes t) node_limit q h.below p) in
    omega (arith, length-nodes t)
