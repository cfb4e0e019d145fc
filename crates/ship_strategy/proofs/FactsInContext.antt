-- What is known of a source or an operator of a plan, by its context there and the findings in it.
use Rattle.std.proofs.Common.{◌≡◌, ◌↔◌, ℕ, true, false, IsTrue, slice_get, refl, sym, ◌∙◌}
use Rattle.pact_record.specs.FieldSets.{has_field}
use Rattle.pact_record.proofs.Members.{same_tests}
use Rattle.tac_syntax.specs.Contexts.{FieldSet, Has}
use Rattle.tac_syntax.specs.declared.contexts.Context.{Context}
use Rattle.tac_syntax.specs.declared.declarations.OpKind.{OpKind}
use Rattle.tac_flow.specs.Results.{FoundSets}
use Rattle.plan_trees.specs.Plans.{PlanTree, has, subtree_of}
use Rattle.plan_trees.proofs.SubtreesOfPlans.{root_of-subtree}
use Rattle.pact_operators.specs.PlanOps.{kind_at, left_keys_in, right_keys_in}
use Rattle.pact_operators.specs.Programs.{HasLeftAttribute, HasRightAttribute, ProgramData}
use Rattle.ship_strategy.specs.Facts.{NodeFacts}
use Rattle.ship_strategy.specs.PlanFacts.{facts_at, facts_for, facts_of, left_attribute, right_attribute, sets_at}
use Rattle.ship_strategy.specs.Views.{known_by, unknown}
use Rattle.ship_strategy.proofs.PlanAttributes.{left_true, right_true}

pub known_for : (p : ProgramData) (n : ℕ) (kind : OpKind) (c : Context) (s : FoundSets) → kind ≡ kind_at p.ops n → c.left_keys ≡ left_keys_in (slice_get p.ops n) → c.right_keys ≡ right_keys_in (slice_get p.ops n)
    → s ≡ sets_at p n (has_field c.left) (has_field c.right) → known_by kind c s ≡ facts_for p n (has_field c.left) (has_field c.right)
known_for p n kind c s of_kind left_keys right_keys sets = λ i. record {
  kind = of_kind i;
  left_keys = left_keys i;
  right_keys = right_keys i;
  left = has_field c.left;
  right = has_field c.right;
  writes = (sets i).writes;
  anchor_left = (sets i).anchor_left;
  anchor_right = (sets i).anchor_right;
}

-- ---- in a plan

same_set : (s t : FieldSet) (P : ℕ → Type 0) → ((k : ℕ) → Has s k ↔ P k) → ((k : ℕ) → Has t k ↔ P k) → s ≡ t
same_set s t P h g = λ i k. same_tests (s k) (t k) (λ e. (g k).1 ((h k).0 e)) (λ e. (h k).1 ((g k).0 e)) i

module _ (p : ProgramData) (t : PlanTree) (n : ℕ) where
  pub facts_there : has n t ≡ true → facts_of p t n ≡ facts_at p (subtree_of n t)
  facts_there h = rw h refl

  pub facts_away : has n t ≡ false → facts_of p t n ≡ unknown
  facts_away h = rw h refl

  -- if the context is the one that the operator has in the plan
  pub known_there : (x : NodeFacts) (c : Context) → has n t ≡ true → ((k : ℕ) → IsTrue (has_field c.left k) ↔ HasLeftAttribute p.functions p.ops (subtree_of n t) k)
      → ((k : ℕ) → IsTrue (has_field c.right k) ↔ HasRightAttribute p.functions p.ops (subtree_of n t) k)
      → x ≡ facts_for p n (has_field c.left) (has_field c.right) → x ≡ facts_of p t n
  known_there x c h left right is =
      let same_left = same_set (has_field c.left) (left_attribute p (subtree_of n t)) (HasLeftAttribute p.functions p.ops (subtree_of n t)) left (left_true p (subtree_of n t)) in
      let same_right = same_set (has_field c.right) (right_attribute p (subtree_of n t)) (HasRightAttribute p.functions p.ops (subtree_of n t)) right (right_true p (subtree_of n t)) in
      let root = sym (root_of-subtree n t h) in
      is ∙ (λ i. facts_for p (root i) (same_left i) (same_right i)) ∙ sym (facts_there h)
