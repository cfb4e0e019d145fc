-- A plan that is changed in the left or in the right input of its root.
use Rattle.std.proofs.Common.{◌≡◌, ◌≢◌, ◌<◌, ◌==◌, ℕ, true, false, ap, sym, ◌∙◌, subst, arith}
use Rattle.std.proofs.lemmas.Bool.Decides.{nat_tests}
use Rattle.plan_trees.specs.Plans.{PlanTree, both, has, replaced, IsPlan}
use Rattle.plan_trees.specs.Preorders.{count_of}
use Rattle.plan_trees.proofs.BelowRoot.{left_plan, right_plan}

-- the replaced subtree is in the left input
pub record InLeft (at : ℕ) (new s t : PlanTree) : Type 0 where
  pub less : count_of t < count_of s
  pub plan : IsPlan (replaced at new t)

pub in_left : (at n : ℕ) (new s t u : PlanTree) → s ≡ both n t u → at ≢ n → has at t ≡ true → IsPlan (replaced at new s) → InLeft at new s t
in_left at n new s t u e f g h =
    let other : (at == n) ≡ false = grind (arith, nat_tests) in
    let same : replaced at new s ≡ both n (replaced at new t) u = ap (replaced at new) e ∙ simp (other, g) in
    record { less = omega (arith, ap count_of e); plan = left_plan n (replaced at new t) u (subst IsPlan same h) }

-- the replaced subtree is in the right input
pub record InRight (at : ℕ) (new s u : PlanTree) : Type 0 where
  pub less : count_of u < count_of s
  pub there : has at u ≡ true
  pub plan : IsPlan (replaced at new u)

pub in_right : (at n : ℕ) (new s t u : PlanTree) → s ≡ both n t u → at ≢ n → has at t ≡ false → has at s ≡ true → IsPlan (replaced at new s) → InRight at new s u
in_right at n new s t u e f g there h =
    let other : (at == n) ≡ false = grind (arith, nat_tests) in
    let same : replaced at new s ≡ both n t (replaced at new u) = ap (replaced at new) e ∙ simp (other, g) in
    record {
      less = omega (arith, ap count_of e);
      there = simp (other, g) at (sym (ap (has at) e) ∙ there);
      plan = right_plan n t (replaced at new u) (subst IsPlan same h);
    }
