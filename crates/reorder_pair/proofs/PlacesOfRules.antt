-- If a rule has a place, its two operators are operators, and both are in the trees before and after.
use Rattle.std.proofs.Common.{◌≡◌, inl, inr, ℕ, true, sym, subst, ◌∙◌}
use Rattle.tac_syntax.specs.declared.declarations.OpKind.{OpKind}
use Rattle.tac_syntax.specs.declared.declarations.OpKind.TheVariants.{Source, Map, Reduce, Match, Cross, CoGroup}
use Rattle.plan_trees.specs.Plans.{PlanTree, has, root_of, subtree_of}
use Rattle.plan_trees.proofs.ExchangedTrees.{exchanged-has_root, has-exchanged_root}
use Rattle.plan_trees.proofs.SubtreesOfPlans.{root_of-subtree}
use Rattle.pact_operators.specs.PlanOps.{kind_at}
use Rattle.pact_operators.specs.Programs.{ProgramData}
use Rattle.reorder_pair.specs.declared.rules.Role.{Role}
use Rattle.reorder_pair.specs.declared.rules.Role.TheVariants.{Mapping, Pairing, Grouping, CoGrouping, Matching}
use Rattle.reorder_pair.specs.declared.rules.Rule.{Rule}
use Rattle.reorder_pair.specs.Places.{IsPlace}
use Rattle.reorder_pair.specs.Rules.{Plays, exchange_of, exchanged_by}

-- a source has no part in an exchange
pub plays-operator : (role : Role) (q : OpKind) → Plays role q → q ≡ Source → ⊥
plays-operator Mapping q e s = bad (sym e ∙ s) where
  bad : Map ≡ Source → ⊥
  bad h = cc
plays-operator Pairing q (inl e) s = bad (sym e ∙ s) where
  bad : Match ≡ Source → ⊥
  bad h = cc
plays-operator Pairing q (inr e) s = bad (sym e ∙ s) where
  bad : Cross ≡ Source → ⊥
  bad h = cc
plays-operator Grouping q e s = bad (sym e ∙ s) where
  bad : Reduce ≡ Source → ⊥
  bad h = cc
plays-operator CoGrouping q e s = bad (sym e ∙ s) where
  bad : CoGroup ≡ Source → ⊥
  bad h = cc
plays-operator Matching q e s = bad (sym e ∙ s) where
  bad : Match ≡ Source → ⊥
  bad h = cc

module _ (p : ProgramData) (plan : PlanTree) (at : ℕ) (rule : Rule) (place : IsPlace p plan at rule) (before after : PlanTree) (before_is : before ≡ subtree_of at plan) (after_is : after ≡ exchanged_by rule (subtree_of at plan)) where
  pub upper-operator : kind_at p.ops (root_of before) ≡ Source → ⊥
  upper-operator =
      subst (λ (t : PlanTree). kind_at p.ops (root_of t) ≡ Source → ⊥) (sym before_is)
      (subst (λ (n : ℕ). kind_at p.ops n ≡ Source → ⊥) (sym (root_of-subtree at plan place.node)) (plays-operator (exchange_of rule).upper (kind_at p.ops at) place.upper))

  pub lower-operator : kind_at p.ops (root_of after) ≡ Source → ⊥
  lower-operator =
      subst (λ (t : PlanTree). kind_at p.ops (root_of t) ≡ Source → ⊥) (sym after_is)
      (plays-operator (exchange_of rule).lower (kind_at p.ops (root_of (exchanged_by rule (subtree_of at plan)))) place.lower)

  pub upper-after : has (root_of before) after ≡ true
  upper-after =
      subst (λ (t : PlanTree). has (root_of t) after ≡ true) (sym before_is)
      (subst (λ (t : PlanTree). has (root_of (subtree_of at plan)) t ≡ true) (sym after_is) (exchanged-has_root (exchange_of rule).shape (subtree_of at plan)))

  pub lower-before : has (root_of after) before ≡ true
  lower-before =
      subst (λ (t : PlanTree). has (root_of t) before ≡ true) (sym after_is)
      (subst (λ (t : PlanTree). has (root_of (exchanged_by rule (subtree_of at plan))) t ≡ true) (sym before_is) (has-exchanged_root (exchange_of rule).shape (subtree_of at plan)))
