-- The combined plan is a valid physical plan, and the theorem without that as a premise.
use Rattle.std.proofs.Common.{◌+◌, ℕ, zero, suc, inl, inr, List, length, sym, subst}
use Rattle.std.proofs.lemmas.Bool.{both_ways}
use Rattle.plan_trees.specs.Physicals.{IsPhysical}
use Rattle.plan_trees.specs.Plans.{has, nodes, root_of}
use Rattle.plan_trees.proofs.DifferentNumbers.{IsAbsent-from, IsIn}
use Rattle.plan_trees.proofs.NodesOfTrees.{has-nodes}
use Rattle.pact_operators.specs.Allowed.{Bag, Counted}
use Rattle.pact_operators.specs.Inputs.{AreInputsOf}
use Rattle.pact_operators.specs.PlanOps.{plan_ops}
use Rattle.pact_operators.specs.Programs.{IsPlanOf, IsProgram}
use Rattle.ship_strategy.specs.PlanFacts.{facts_of}
use Rattle.ship_strategy.specs.Ships.{LegalShip}
use Rattle.flow_instance.specs.Spots.{setting}
use Rattle.flow_instance.specs.Spread.{Spread}
use Rattle.combine_rule.specs.CombinedPrograms.{Planned, combined_at, IsCombinedFrom, IsCombinedPlan}
use Rattle.combine_rule.proofs.AllCombined.{combined_run_counted}
use Rattle.combine_rule.proofs.CombinedTheorem.{combined_plan, combined_program, below_there, not_top, no_new}
use Rattle.plan_trees.proofs.InsertedPhysicals.{inserted_physical}
use Rattle.pact_operators.proofs.NumbersInPlans.{next_below}

module _ (inputs : List Bag) (end : Planned) where
  pub all_physical : (count at : ℕ) (s : Planned) (of : List (ℕ × ℕ)) → IsCombinedFrom count at s end of → IsProgram s.program
      → IsPlanOf s.program.functions s.program.ops s.physical.tree → IsPhysical s.physical → IsPhysical end.physical
  all_physical zero at s of h program plan physical = subst (λ (x : Planned). IsPhysical x.physical) (sym h.0) physical
  all_physical (suc n) at s of (inr h) program plan physical = all_physical n (at + 1) s of h.1 program plan physical
  all_physical (suc n) at s of (inl h) program plan physical =
      let c = h.0 in
      let new = length s.program.ops in
      let below_limit = next_below s.program.functions s.program.ops s.physical.tree plan c.room in
      all_physical n (at + 1) (combined_at s at c) h.1 h.3 (combined_program s at c program inputs plan) (combined_plan s at c program inputs plan)
      (inserted_physical (root_of c.input) new s.physical physical (below_there s at c program inputs plan) (λ e. not_top s at c program inputs plan (sym e)) below_limit
      (IsAbsent-from new (nodes s.physical.tree) (λ m i e.
      both_ways (has new s.physical.tree) (no_new s at c program inputs plan) (has-nodes new s.physical.tree (subst (λ (k : ℕ). IsIn k (nodes s.physical.tree)) e i)))))

-- The theorem, for a program with its inputs, a physical plan of it with legal shipping, and their combined plan: the
-- result of a run of the combined plan is counted for the plan.
pub combined_counted_run : (s end : Planned) (of : List (ℕ × ℕ)) → IsCombinedPlan s end of → (inputs : List Bag) → IsProgram s.program
    → AreInputsOf s.program inputs → IsPhysical s.physical
    → IsPlanOf s.program.functions s.program.ops s.physical.tree → LegalShip (facts_of s.program s.physical.tree) s.physical
    → (rows : Bag) (counts : List ℕ) → Spread (setting end.program inputs end.physical) rows counts → Counted (plan_ops s.program inputs) s.physical.tree rows counts
combined_counted_run s end of h inputs program of_inputs physical plan legal =
    combined_run_counted s end of h inputs program of_inputs physical plan legal (all_physical inputs end (length s.program.ops) 0 s of h program plan physical)
