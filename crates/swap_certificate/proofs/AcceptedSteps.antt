-- Legal exchanges are accepted when they are written down with the line of the plan that they lead to.
use Rattle.std.proofs.Common.{◌≡◌, ◌+◌, inr, ℕ, List, [], ◌∷◌, map, Option, Some, None, slice_get, Ok, refl, subst}
use Rattle.tac_syntax.specs.declared.declarations.OpKind.TheVariants.{Source}
use Rattle.plan_trees.specs.Plans.{PlanTree}
use Rattle.pact_operators.specs.declared.operators.Op.{Op}
use Rattle.pact_operators.specs.PlanOps.{kind_at, kind_in}
use Rattle.pact_operators.specs.Programs.{ProgramData}
use Rattle.plan_printer.specs.PlanText.{operator_name}
use Rattle.reorder_pair.specs.declared.legality.Condition.{Condition}
use Rattle.reorder_pair.specs.Rules.{exchange_of}
use Rattle.reorder_pair.specs.ToldExchanges.{IsLegalIn, Lead, after}
use Rattle.reorder_pair.proofs.PlacesOfRules.{plays-operator}
use Rattle.swap_certificate.specs.Checks.{Asks, EndsAt, Follow, is_legal, same_line, step_of}
use Rattle.swap_certificate.specs.PlanLines.{IsNamed, line_of}

-- what isn't a source is an operator, and its name is the one at that number
operator_named : (ops : List Op) (n : ℕ) (found : Option Op) → slice_get ops n ≡ found → (kind_in found ≡ Source → ⊥) → IsNamed ops (operator_name found) n
operator_named ops n None e operator = absurd (operator refl)
operator_named ops n (Some op) e operator = (op, e, operator, refl)

module _ (p : ProgramData) where
  condition-Asks : (t : PlanTree) (c : Condition) → IsLegalIn p t c → Asks p (step_of p c) c.rule c.at
  condition-Asks t c legal = record {
    rule_is = refl;
    at_is = operator_named p.ops c.at (slice_get p.ops c.at) refl (plays-operator (exchange_of c.rule).upper (kind_at p.ops c.at) legal.found.place.upper);
  }

  pub lead-Follow : (n : ℕ) (t u : PlanTree) (by : List Condition) → Lead p t by u → Follow p (line_of p.ops u) n t (map (step_of p) by) (Ok u)
  lead-Follow n t u [] h = subst (λ (v : PlanTree). EndsAt p (line_of p.ops v) t (Ok v)) h (same_line refl)
  lead-Follow n t u (c ∷ by) h = inr (after c t, is_legal c.rule c.at (condition-Asks t c h.0) h.0, lead-Follow (n + 1) (after c t) u by h.1)
