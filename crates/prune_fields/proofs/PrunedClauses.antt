-- Consequences for a pruned plan.
use Rattle.std.proofs.Common.{List, length, sym, subst}
use Rattle.plan_trees.specs.Physicals.{IsPhysical, PhysicalData}
use Rattle.pact_operators.specs.Allowed.{Bag}
use Rattle.pact_operators.specs.Inputs.{AreInputsOf}
use Rattle.pact_operators.specs.Programs.{IsPlanOf, IsProgram, ProgramData}
use Rattle.ship_strategy.specs.PlanFacts.{facts_of}
use Rattle.ship_strategy.specs.Ships.{LegalShip}
use Rattle.ship_strategy.proofs.DividedRuns.{divided_counted}
use Rattle.flow_instance.proofs.DividedRuns.{divided}
use Rattle.prune_fields.specs.declared.pruning.Kept.{Kept}
use Rattle.prune_fields.specs.Needs.{need}
use Rattle.prune_fields.specs.PrunedPlans.{IsPruned, cut_below, pruned_physical, pruned_program}
use Rattle.prune_fields.specs.SameAnswers.{AnswersSame, RunsAnswer}
use Rattle.prune_fields.proofs.MoreOps.{same_inputs}
use Rattle.prune_fields.proofs.PrunedPlans.{pruned_answers, pruned_is_physical, pruned_is_program, pruned_legal, pruned_plan}

module _ {p : ProgramData} {x : PhysicalData} {q : ProgramData} {y : PhysicalData} {kept : List Kept} (h : IsPruned p x q y kept) where
  pub kept_inputs : (inputs : List Bag) → AreInputsOf p inputs → AreInputsOf q inputs
  kept_inputs inputs of =
      subst (λ (r : ProgramData). AreInputsOf r inputs) (sym h.program)
      (same_inputs p inputs x.tree (need p x.tree) (cut_below p x (length p.ops)) of)

  module _ (program : IsProgram p) (plan : IsPlanOf p.functions p.ops x.tree) (physical : IsPhysical x) where
    -- a property of the pruned plan holds for this equal one
    made : (P : ProgramData → PhysicalData → Type 0) → P (pruned_program p x) (pruned_physical p x) → P q y
    made P g = subst (λ (r : ProgramData). P r y) (sym h.program) (subst (P (pruned_program p x)) (sym h.physical) g)

    is_program : IsProgram q
    is_program = made (λ r z. IsProgram r) (pruned_is_program p x program plan physical)

    is_physical : IsPhysical y
    is_physical = made (λ r z. IsPhysical z) (pruned_is_physical p x program plan physical)

    pub made_plan : IsPlanOf q.functions q.ops y.tree
    made_plan = made (λ r z. IsPlanOf r.functions r.ops z.tree) (pruned_plan p x program plan physical)

    pub made_legal : LegalShip (facts_of p x.tree) x → LegalShip (facts_of q y.tree) y
    made_legal legal = made (λ r z. LegalShip (facts_of r z.tree) z) (pruned_legal p x program plan physical legal)

    pub made_answers : AnswersSame p x q y
    made_answers = made (λ r z. AnswersSame p x r z) (pruned_answers p x program plan physical)

    -- a run of the pruned plan is counted for it, and so for the plan
    pub made_runs : LegalShip (facts_of p x.tree) x → RunsAnswer p x q y
    made_runs legal inputs rows counts of_inputs run =
        let counted =
        divided_counted q is_program inputs (kept_inputs inputs of_inputs) y is_physical made_plan (made_legal legal) rows counts
        (divided q inputs y rows counts is_physical made_plan run) in
        (made_answers inputs of_inputs).back rows counts counted
