-- The inputs of a tree whose edges lie in a physical plan.
use Rattle.std.proofs.Common.{◌≡◌, ◌≢◌, ◌<◌, ℕ, true, ap, subst, arith}
use Rattle.plan_trees.specs.declared.plans.Parts.{Parts}
use Rattle.plan_trees.specs.declared.plans.Parts.TheVariants.{Alone, OverOne, OverTwo}
use Rattle.plan_trees.specs.PlanParts.{parts_of}
use Rattle.plan_trees.specs.Plans.{PlanTree, over, both, root_of, has, IsPlan}
use Rattle.plan_trees.specs.Preorders.{count_of}
use Rattle.plan_trees.proofs.RootParts.{is_both, is_over}
use Rattle.plan_trees.proofs.SubtreesOfPlans.{has-root}
use Rattle.plan_trees.specs.Edges.{AreInner, EdgesLieIn, IsInner}
use Rattle.plan_trees.proofs.NumbersApart.{above_one, above_two}

-- all numbers of an input are those of edges
abbrev AllLieIn : PlanTree → PlanTree → Type 0
AllLieIn t whole = (k : ℕ) → has k t ≡ true → (has k whole ≡ true) × (k ≢ root_of whole)

inner : (whole s t : PlanTree) → count_of t < count_of s → AllLieIn t whole → IsInner whole s t
inner whole s t less all =
    let root = all (root_of t) (has-root t) in
    record { less = less; lies = λ k e d. all k e; there = root.0; edge = root.1 }

over_lies : (whole t : PlanTree) (n : ℕ) → IsPlan (over n t) → EdgesLieIn (over n t) whole → AllLieIn t whole
over_lies whole t n h lies k e =
    let s = above_one n t h in
    lies k (s.whole k e) (λ d. s.root (subst (λ (x : ℕ). has x t ≡ true) d e))

left_lies : (whole t u : PlanTree) (n : ℕ) → IsPlan (both n t u) → EdgesLieIn (both n t u) whole → AllLieIn t whole
left_lies whole t u n h lies k e =
    let s = above_two n t u h in
    lies k (s.left_whole k e) (λ d. s.left_root (subst (λ (x : ℕ). has x t ≡ true) d e))

right_lies : (whole t u : PlanTree) (n : ℕ) → IsPlan (both n t u) → EdgesLieIn (both n t u) whole → AllLieIn u whole
right_lies whole t u n h lies k e =
    let s = above_two n t u h in
    lies k (s.right_whole k e) (λ d. s.right_root (subst (λ (x : ℕ). has x u ≡ true) d e))

-- each input of a tree, by the form of its parts
pub inner_parts : (whole s : PlanTree) (p : Parts) → p ≡ parts_of s → IsPlan s → EdgesLieIn s whole → AreInner whole s p
inner_parts whole s (Alone n) e h lies = tt
inner_parts whole s (OverOne n t) e h lies =
    let same : s ≡ over n t = is_over s t n e in
    let less : count_of t < count_of s = omega (arith, ap count_of same) in
    inner whole s t less (over_lies whole t n (subst IsPlan same h) (subst (λ (x : PlanTree). EdgesLieIn x whole) same lies))
inner_parts whole s (OverTwo n t u) e h lies =
    let same : s ≡ both n t u = is_both s t u n e in
    let plan = subst IsPlan same h in
    let edges = subst (λ (x : PlanTree). EdgesLieIn x whole) same lies in
    (inner whole s t (omega (arith, ap count_of same)) (left_lies whole t u n plan edges), inner whole s u (omega (arith, ap count_of same)) (right_lies whole t u n plan edges))
