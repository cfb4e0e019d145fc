-- What follows for a plan's tree from its parts.
use Rattle.std.proofs.Common.{◌≡◌, ℕ}
use Rattle.plan_trees.specs.Plans.{PlanTree, leaf, over, both}
use Rattle.plan_trees.specs.PlanParts.{parts_of}
use Rattle.plan_trees.specs.declared.plans.Parts.TheVariants.{Alone, OverOne, OverTwo}

pub is_leaf : (s : PlanTree) (n : ℕ) → Alone n ≡ parts_of s → s ≡ leaf n
is_leaf (leaf m) n e = let h : Alone n ≡ Alone m = e in cc
is_leaf (over m a) n e = absurd (let h : Alone n ≡ OverOne m a = e in cc)
is_leaf (both m a b) n e = absurd (let h : Alone n ≡ OverTwo m a b = e in cc)

pub is_over : (s t : PlanTree) (n : ℕ) → OverOne n t ≡ parts_of s → s ≡ over n t
is_over (leaf m) t n e = absurd (let h : OverOne n t ≡ Alone m = e in cc)
is_over (over m a) t n e = let h : OverOne n t ≡ OverOne m a = e in cc
is_over (both m a b) t n e = absurd (let h : OverOne n t ≡ OverTwo m a b = e in cc)

pub is_both : (s t u : PlanTree) (n : ℕ) → OverTwo n t u ≡ parts_of s → s ≡ both n t u
is_both (leaf m) t u n e = absurd (let h : OverTwo n t u ≡ Alone m = e in cc)
is_both (over m a) t u n e = absurd (let h : OverTwo n t u ≡ OverOne m a = e in cc)
is_both (both m a b) t u n e = let h : OverTwo n t u ≡ OverTwo m a b = e in cc
