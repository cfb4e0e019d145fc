-- What was checked over two trees, at the place of the plan: the conditions that all rules have; and an exchange is
-- legal if these are all.
use Rattle.std.proofs.Common.{inr, ℕ, List, ◌++◌}
use Rattle.plan_trees.specs.Plans.{PlanTree, subtree_of}
use Rattle.pact_operators.specs.Programs.{ProgramData}
use Rattle.reorder_pair.specs.declared.finding.Found.{Found}
use Rattle.reorder_pair.specs.declared.legality.NotLegal.{NotLegal}
use Rattle.reorder_pair.specs.declared.rules.Rule.{Rule}
use Rattle.reorder_pair.specs.declared.rules.Rule.TheVariants.{MapMap, MapLeft, MapLeftUp, MapRight, MapRightUp, Rotate, RotateUp}
use Rattle.reorder_pair.specs.Conditions.{AllPass, FirstFails, Line, conflict_lines, own_lines, side_lines, uses_of}
use Rattle.reorder_pair.specs.Legal.{IsFoundAt, IsLegalFor, IsRefusal}
use Rattle.reorder_pair.specs.Rules.{IsPairRule, exchange_of, exchanged_by}
use Rattle.reorder_pair.proofs.ConditionLines.{AllPass-append, FirstFails-left, FirstFails-right}

module _ (p : ProgramData) (plan : PlanTree) (at : ℕ) (rule : Rule) where
  abbrev tree : PlanTree
  tree = subtree_of at plan

  abbrev then_tree : PlanTree
  then_tree = exchanged_by rule tree

  -- the conditions that all rules have, and those that only this rule has
  abbrev pub shared_lines : Found → Found → List Line
  shared_lines upper lower = conflict_lines (uses_of upper) (uses_of lower) ++ side_lines p (exchange_of rule).shape tree then_tree (uses_of upper) (uses_of lower)

  abbrev pub lines_alone : Found → Found → List Line
  lines_alone upper lower = own_lines p rule tree then_tree (uses_of upper) (uses_of lower)

  pub shared-IsRefusal : (upper lower : Found) (why : NotLegal) → IsFoundAt p plan at rule upper lower → FirstFails (shared_lines upper lower) why → IsRefusal p plan at rule why
  shared-IsRefusal upper lower why found fails = inr (upper, lower, found, FirstFails-left (shared_lines upper lower) (lines_alone upper lower) why fails)

  pub own-IsRefusal : (upper lower : Found) (why : NotLegal) → IsFoundAt p plan at rule upper lower → AllPass (shared_lines upper lower) → FirstFails (lines_alone upper lower) why → IsRefusal p plan at rule why
  own-IsRefusal upper lower why found pass fails = inr (upper, lower, found, FirstFails-right (shared_lines upper lower) (lines_alone upper lower) why pass fails)

  pub all-IsLegalFor : (upper lower : Found) → IsFoundAt p plan at rule upper lower → AllPass (shared_lines upper lower) → AllPass (lines_alone upper lower) → IsLegalFor p plan at rule upper lower
  all-IsLegalFor upper lower found pass groups = record { found = found; passes = AllPass-append (shared_lines upper lower) (lines_alone upper lower) pass groups }

  -- ---- a legal exchange without groups

  -- without groups there are only the conditions that all rules have
  no_groups : (upper lower : Found) → IsPairRule rule → AllPass (lines_alone upper lower)
  no_groups upper lower pair = by rule pair where
    by : (r : Rule) → IsPairRule r → AllPass (own_lines p r tree then_tree (uses_of upper) (uses_of lower))
    by MapMap i = tt
    by MapLeft i = tt
    by MapLeftUp i = tt
    by MapRight i = tt
    by MapRightUp i = tt
    by Rotate i = tt
    by RotateUp i = tt
    by r i = absurd i

  pub pair-IsLegalFor : (upper lower : Found) → IsPairRule rule → IsFoundAt p plan at rule upper lower → AllPass (shared_lines upper lower) → IsLegalFor p plan at rule upper lower
  pair-IsLegalFor upper lower pair found pass = all-IsLegalFor upper lower found pass (no_groups upper lower pair)
