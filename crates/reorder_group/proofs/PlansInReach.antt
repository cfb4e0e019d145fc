-- Plans in reach: what they keep of the plan as written; and sequences of exchanges, each legal where it is made.
use Rattle.std.proofs.Common.{List, [], ◌∷◌, ◌++◌, sym, ap, subst}
use Rattle.plan_trees.specs.Plans.{PlanTree}
use Rattle.pact_operators.specs.Programs.{IsPlanOf, IsProgram, ProgramData}
use Rattle.reorder_pair.specs.declared.legality.Condition.{Condition}
use Rattle.reorder_pair.specs.Legal.{KeepAnswers}
use Rattle.reorder_pair.specs.Reach.{Reach, as_written, exchanged}
use Rattle.reorder_pair.specs.Rules.{swapped}
use Rattle.reorder_pair.specs.ToldExchanges.{IsLegalIn, Lead, after}
use Rattle.reorder_pair.proofs.LegalExchanges.{same_through}
use Rattle.reorder_pair.proofs.PlacedExchanges.{legal-IsPlanOf}
use Rattle.reorder_group.proofs.LegalExchanges.{legal-KeepAnswers}
use Rattle.pact_operators.specs.PlanOps.{plan_ops}

-- ---- what they keep

module _ (p : ProgramData) (program : IsProgram p) where
  pub reached-IsPlanOf : (t : PlanTree) → Reach p t → IsPlanOf p.functions p.ops t
  reached-IsPlanOf _ as_written = program.plan
  reached-IsPlanOf _ (exchanged t at rule r legal) = legal-IsPlanOf p program t (reached-IsPlanOf t r) at rule legal

  pub reached-KeepAnswers : (t : PlanTree) → Reach p t → KeepAnswers p p.plan t
  reached-KeepAnswers _ as_written = λ inputs of_inputs bag. ((λ a. a), (λ a. a))
  reached-KeepAnswers _ (exchanged t at rule r legal) = λ inputs of_inputs.
      same_through (plan_ops p inputs) p.plan t (swapped rule at t) (reached-KeepAnswers t r inputs of_inputs) (legal-KeepAnswers p program t (reached-IsPlanOf t r) at rule legal inputs of_inputs)

-- ---- exchanges that lead from plan to plan

module _ (p : ProgramData) where
  -- one more exchange, after the others
  pub lead_on : (t u : PlanTree) (cs : List Condition) (c : Condition) → Lead p t cs u → IsLegalIn p u c → Lead p t (cs ++ c ∷ []) (after c u)
  lead_on t u [] c h legal = (subst (λ (s : PlanTree). IsLegalIn p s c) (sym h) legal, ap (after c) h)
  lead_on t u (d ∷ cs) c h legal = (h.0, lead_on (after d t) u cs c h.1 legal)
