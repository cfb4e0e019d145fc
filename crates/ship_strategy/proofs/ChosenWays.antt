-- The ways that a number chooses, and that they suit the operators.
use Rattle.std.proofs.Common.{◌≡◌, ◌==◌, ◌+◌, inl, inr, ℕ, zero, suc, true, false, List, [], ◌∷◌, refl, ap, sym, subst, ◌∙◌, arith}
use Rattle.std.proofs.lemmas.Bool.{cases_Bool, or_left, or_right}
use Rattle.std.proofs.lemmas.Bool.Decides.{nat_tests}
use Rattle.tac_syntax.specs.declared.declarations.OpKind.{OpKind}
use Rattle.tac_syntax.specs.declared.declarations.OpKind.TheVariants.{Source, Map, Reduce, Match, Cross, CoGroup}
use Rattle.plan_trees.specs.Plans.{PlanTree, leaf, over, both, has}
use Rattle.plan_trees.proofs.SubtreesOfPlans.{has-root}
use Rattle.pact_operators.specs.declared.operators.Op.{Op}
use Rattle.pact_operators.specs.PlanOps.{kind_at}
use Rattle.pact_operators.specs.Programs.{HasArity, takes}
use Rattle.pact_operators.proofs.SourceKinds.{takes_at}
use Rattle.ship_strategy.specs.declared.ways.Way.{Way}
use Rattle.ship_strategy.specs.declared.ways.Way.TheVariants.{ByKey}
use Rattle.ship_strategy.specs.Facts.{Facts}
use Rattle.ship_strategy.specs.Layouts.{choice_at, way_of, ways_of}
use Rattle.ship_strategy.specs.Views.{chosen_from}
use Rattle.ship_strategy.proofs.AllowedShips.{IsSingle, Suits}
use Rattle.ship_strategy.proofs.LaidPlacements.{HasShape}

-- ---- the chosen ways

pub chosen_at : (at : ℕ) (ops : List Op) (number n k : ℕ) → k ≡ at + n → chosen_from at ops number (λ _. ByKey) k ≡ ways_of ops number n
chosen_at at [] number n k e = refl
chosen_at at (op ∷ ops) number zero k e =
    let here : (k == at) ≡ true = grind (arith, nat_tests) in
    rw here refl
chosen_at at (op ∷ ops) number (suc n) k e =
    let later : (k == at) ≡ false = grind (arith, nat_tests) in
    rw later (chosen_at (suc at) ops number n k (omega (arith, e)))

pub ways_chosen : (ops : List Op) (number : ℕ) (before after : ℕ → Way) → ((k : ℕ) → before k ≡ ByKey) → ((k : ℕ) → after k ≡ chosen_from 0 ops number before k) → after ≡ ways_of ops number
ways_chosen ops number before after b a =
    let blank : before ≡ (λ _. ByKey) = λ i k. b k i in
    λ i k. (a k ∙ ap (λ (w : ℕ → Way). chosen_from 0 ops number w k) blank ∙ chosen_at 0 ops number k k (omega arith)) i

-- ---- ways suit their operators

suits : (kind : OpKind) (choice : ℕ) → takes kind ≡ 2 → Suits kind (way_of kind choice)
suits Source choice e = absurd (omega (arith, e))
suits Map choice e = absurd (omega (arith, e))
suits Reduce choice e = absurd (omega (arith, e))
suits Match choice e = tt
suits Cross choice e = elim (cases_Bool (choice == 0)) as (λ _. Suits Cross (way_of Cross choice)) [
  | inl f ↦ rw f tt
  | inr f ↦ rw f tt
]
suits CoGroup choice e = tt

single : (kind : OpKind) → takes kind ≡ 1 → IsSingle kind
single Map e = tt
single Reduce e = tt
single kind e = absurd (omega (arith, e))

pub shape : (f : Facts) (ops : List Op) (number : ℕ) (t : PlanTree) → ((n : ℕ) → has n t ≡ true → (f n).kind ≡ kind_at ops n) → HasArity ops t → HasShape f (ways_of ops number) t
shape f ops number (leaf n) k h = tt
shape f ops number (over n t) k h = (
  subst IsSingle (sym (k n (has-root (over n t)))) (single (kind_at ops n) (takes_at ops n 1 h.0)),
  shape f ops number t (λ m e. k m (or_right (m == n) (has m t) e)) h.1,
)
shape f ops number (both n t u) k h = (
  subst (λ (x : OpKind). Suits x (ways_of ops number n)) (sym (k n (has-root (both n t u)))) (suits (kind_at ops n) (choice_at ops number n) (takes_at ops n 2 h.0)),
  shape f ops number t (λ m e. k m (or_right (m == n) _ (or_left (has m t) (has m u) e))) h.1,
  shape f ops number u (λ m e. k m (or_right (m == n) _ (or_right (has m t) (has m u) e))) h.2,
)
