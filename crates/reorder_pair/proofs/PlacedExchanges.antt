-- A legal exchange at a place of a plan yields a plan of the program. It keeps the answers if it keeps what the
-- operator's tree allows.
use Rattle.std.proofs.Common.{ℕ, List, sym, subst}
use Rattle.plan_trees.specs.declared.shapes.Shape.{Shape}
use Rattle.plan_trees.specs.declared.shapes.Shape.TheVariants.{OneOverOne, IntoLeft, OutOfLeft, IntoRight, OutOfRight, ToRight, ToLeft}
use Rattle.plan_trees.specs.Distinct.{AreDifferent}
use Rattle.plan_trees.specs.Plans.{PlanTree, over, both, nodes, root_of, subtree_of}
use Rattle.plan_trees.specs.Shapes.{HasShape, exchanged}
use Rattle.plan_trees.proofs.NeighbourTrees.{lower_tree, subtree_of-lower, subtree_of-upper, upper_tree}
use Rattle.plan_trees.proofs.SubtreesOfPlans.{root_of-subtree, subtree_of-AreDifferent, subtree_of-root}
use Rattle.pact_operators.specs.Allowed.{AllowSame, Bag}
use Rattle.pact_operators.specs.PlanOps.{kind_at, plan_ops}
use Rattle.pact_operators.specs.Programs.{AreSidesApart, IsPlanOf, IsProgram, ProgramData}
use Rattle.pact_operators.specs.SoundOps.{AreOpsOf}
use Rattle.pact_operators.proofs.ExchangesOfTrees.{KeepsSides, exchange_of as exchange_of_shape}
use Rattle.pact_operators.proofs.KeptInPlace.{AreSidesApart-subtree, allowed_in_place}
use Rattle.pact_operators.proofs.PlanInPlace.{plan_in_place}
use Rattle.pact_operators.proofs.SoundPrograms.{are_ops}
use Rattle.reorder_pair.specs.declared.finding.Found.{Found}
use Rattle.reorder_pair.specs.declared.rules.Role.{Role}
use Rattle.reorder_pair.specs.declared.rules.Rule.{Rule}
use Rattle.reorder_pair.specs.Conditions.{AllPass, lines, own_lines, side_lines, uses_of}
use Rattle.reorder_pair.specs.Legal.{IsLegal, KeepAnswers}
use Rattle.reorder_pair.specs.Places.{IsPlace}
use Rattle.reorder_pair.specs.Rules.{Plays, exchange_of, exchanged_by, swapped}
use Rattle.reorder_pair.proofs.ConditionLines.{AllPass-left}
use Rattle.reorder_pair.proofs.FoundOperators.{IsFoundIn, found_in, owned_touched}
use Rattle.reorder_pair.proofs.PlacesOfRules.{plays-operator}

-- a legal exchange at the root of a tree
pub record IsLegalRoot (p : ProgramData) (rule : Rule) (t : PlanTree) (upper lower : Found) : Type 0 where
  pub shape : HasShape (exchange_of rule).shape t
  pub above : Plays (exchange_of rule).upper (kind_at p.ops (root_of t))
  pub below : Plays (exchange_of rule).lower (kind_at p.ops (root_of (exchanged_by rule t)))
  pub upper_in : IsFoundIn p (root_of t) t (upper_tree (exchange_of rule).shape t) upper
  pub lower_in : IsFoundIn p (root_of (exchanged_by rule t)) (lower_tree (exchange_of rule).shape t) (exchanged_by rule t) lower
  pub passes : AllPass (lines p rule t (exchanged_by rule t) (uses_of upper) (uses_of lower))

-- a rule's legal exchanges at a root keep what the tree allows
abbrev pub KeepsAtRoot : ProgramData → Rule → Type 0
KeepsAtRoot p rule = (inputs : List Bag) → AreOpsOf p.fields p.functions p.ops (plan_ops p inputs) → (t : PlanTree) (upper lower : Found) → IsLegalRoot p rule t upper lower
    → AreSidesApart p.functions p.ops t → AllowSame (plan_ops p inputs) t (exchanged_by rule t)

-- ---- what moves past a side owns none of its attributes

module _ (p : ProgramData) (program : IsProgram p) (role : Role) where
  sides_kept : (shape : Shape) (t : PlanTree) → HasShape shape t → Plays role (kind_at p.ops (root_of t)) → (upper lower : Found) → IsFoundIn p (root_of t) t (upper_tree shape t) upper
      → AllPass (side_lines p shape t (exchanged shape t) (uses_of upper) (uses_of lower)) → KeepsSides p.functions p.ops shape t
  sides_kept OneOverOne t s above upper lower h pass = tt
  sides_kept IntoLeft (over f (both g t u)) s above upper lower h pass =
      λ k own b. pass.0 k (owned_touched p program f (over f (both g t u)) (over f t) upper h (plays-operator role (kind_at p.ops f) above) k own) b
  sides_kept OutOfLeft t s above upper lower h pass = tt
  sides_kept IntoRight (over f (both g t u)) s above upper lower h pass =
      λ k own b. pass.0 k (owned_touched p program f (over f (both g t u)) (over f u) upper h (plays-operator role (kind_at p.ops f) above) k own) b
  sides_kept OutOfRight t s above upper lower h pass = tt
  sides_kept ToRight (both i (both g t u) w) s above upper lower h pass =
      λ k own b. pass.0 k (owned_touched p program i (both i (both g t u) w) (both i u w) upper h (plays-operator role (kind_at p.ops i) above) k own) b
  sides_kept ToLeft (both g t (both i u w)) s above upper lower h pass =
      λ k own b. pass.1.0 k (owned_touched p program g (both g t (both i u w)) (both g t u) upper h (plays-operator role (kind_at p.ops g) above) k own) b
  sides_kept shape t s above upper lower h pass = absurd s

-- ---- at a place of a plan

module _ (p : ProgramData) (program : IsProgram p) (plan : PlanTree) (of_program : IsPlanOf p.functions p.ops plan) (at : ℕ) (rule : Rule) (legal : IsLegal p plan at rule) where
  abbrev tree : PlanTree
  tree = subtree_of at plan

  abbrev after : PlanTree
  after = exchanged_by rule tree

  abbrev shape : Shape
  shape = (exchange_of rule).shape

  different : AreDifferent (nodes tree)
  different = subtree_of-AreDifferent at plan of_program.different

  place : IsPlace p plan at rule
  place = legal.2.found.place

  legal_root : IsLegalRoot p rule tree legal.0 legal.1
  legal_root = record {
    shape = place.shape;
    above = subst (λ (n : ℕ). Plays (exchange_of rule).upper (kind_at p.ops n)) (sym (root_of-subtree at plan place.node)) place.upper;
    below = place.lower;
    upper_in = found_in p (root_of tree) tree after tree (upper_tree shape tree) legal.0 (subtree_of-root tree) (subtree_of-upper shape tree different place.shape) legal.2.found.found.of_upper;
    lower_in = found_in p (root_of after) tree after (lower_tree shape tree) after legal.1 (subtree_of-lower shape tree different place.shape) (subtree_of-root after) legal.2.found.found.of_lower;
    passes = legal.2.passes;
  }

  side_passes : AllPass (side_lines p shape tree after (uses_of legal.0) (uses_of legal.1))
  side_passes =
      let sides = side_lines p shape tree after (uses_of legal.0) (uses_of legal.1) in
      AllPass-left sides (own_lines p rule tree after (uses_of legal.0) (uses_of legal.1)) legal.2.passes.1.1.1

  pub legal-IsPlanOf : IsPlanOf p.functions p.ops (swapped rule at plan)
  legal-IsPlanOf =
      plan_in_place p.functions p.ops at after plan of_program place.node
      (exchange_of_shape p.functions p.ops shape tree place.shape (sides_kept p program (exchange_of rule).upper shape tree place.shape legal_root.above legal.0 legal.1 legal_root.upper_in side_passes))

  pub placed-KeepAnswers : KeepsAtRoot p rule → KeepAnswers p plan (swapped rule at plan)
  placed-KeepAnswers keeps inputs of_inputs =
      allowed_in_place (plan_ops p inputs) at after plan place.node
      (keeps inputs (are_ops p inputs program of_inputs) tree legal.0 legal.1 legal_root (AreSidesApart-subtree p.functions p.ops at plan of_program.apart))
