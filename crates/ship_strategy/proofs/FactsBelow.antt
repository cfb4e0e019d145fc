-- The facts of a plan at the root of each of its subtrees are those of the subtree.
use Rattle.std.proofs.Common.{◌≡◌, ℕ, true, ap, ◌∙◌, refl}
use Rattle.plan_trees.specs.Distinct.{AreDifferent}
use Rattle.plan_trees.specs.Plans.{PlanTree, has, nodes, root_of, subtree_of}
use Rattle.plan_trees.proofs.SubtreesOfPlans.{root_of-subtree}
use Rattle.pact_operators.specs.Programs.{ProgramData}
use Rattle.plan_trees.proofs.EverySubtree.{AllBelow, all_below}
use Rattle.ship_strategy.specs.PlanFacts.{facts_at, facts_of}

pub facts_below : (p : ProgramData) (t : PlanTree) → AreDifferent (nodes t) → AllBelow (λ s. facts_of p t (root_of s) ≡ facts_at p s) t
facts_below p t different = all_below (λ s. facts_of p t (root_of s) ≡ facts_at p s) t different at
  where
    at : (m : ℕ) → has m t ≡ true → facts_of p t (root_of (subtree_of m t)) ≡ facts_at p (subtree_of m t)
    at m there = ap (facts_of p t) (root_of-subtree m t there) ∙ rw there refl
