-- The result of a certificate. Its steps are followed from the plan as written, and nothing that they state is trusted.
use Rattle.std.specs.Prelude.{◌≡◌, ◌⊎◌, ◌+◌, ℕ, List, [], ◌∷◌, Result, Ok, Err, map}
use Rattle.plan_trees.specs.Plans.{PlanTree}
use Rattle.pact_operators.specs.Programs.{ProgramData}
use Rattle.reorder_pair.specs.declared.finding.Found.{Found}
use Rattle.reorder_pair.specs.declared.legality.Condition.{Condition}
use Rattle.reorder_pair.specs.declared.legality.NotLegal.{NotLegal}
use Rattle.reorder_pair.specs.declared.rules.Rule.{Rule}
use Rattle.reorder_pair.specs.Legal.{IsFoundAt, IsLegalFor, IsRefusal}
use Rattle.reorder_pair.specs.Places.{IsPlace}
use Rattle.reorder_pair.specs.Rules.{swapped, word_of}
use Rattle.swap_certificate.specs.declared.certificates.CertFault.{CertFault}
use Rattle.swap_certificate.specs.declared.certificates.CertFault.TheVariants.{C1, C2, C3, C4, C5, C6}
use Rattle.swap_certificate.specs.declared.certificates.Certificate.{Certificate}
use Rattle.swap_certificate.specs.declared.certificates.Step.{Step}
use Rattle.swap_certificate.specs.PlanLines.{IsNamed, line_of, name_at}

module _ (p : ProgramData) where
  -- the step has the rule's word and the operator's name
  pub record Asks (s : Step) (rule : Rule) (at : ℕ) : Type 0 where
    pub rule_is : word_of rule ≡ s.rule
    pub at_is : IsNamed p.ops s.at at

  -- The plan to which step `n` leads, or the step's fault. The faults, in this order: no rule has the word; no operator
  -- has the name, or the rule has no place there; the sets found differ from the stated ones; the exchange isn't legal.
  -- Each fault includes that the ones before it don't apply.
  pub data StepTo (n : ℕ) (t : PlanTree) (s : Step) : Result PlanTree CertFault → Type 0 where
    no_rule : ((rule : Rule) → word_of rule ≡ s.rule → ⊥) → StepTo n t s (Err (C2 n))
    no_place : (rule : Rule) → word_of rule ≡ s.rule → ((at : ℕ) → IsNamed p.ops s.at at → IsPlace p t at rule → ⊥) → StepTo n t s (Err (C1 n))
    other_sets : (rule : Rule) (at : ℕ) (upper lower : Found) → Asks s rule at → IsFoundAt p t at rule upper lower → ((upper ≡ s.upper) × (lower ≡ s.lower) → ⊥)
        → StepTo n t s (Err (C3 n upper lower))
    not_legal : (rule : Rule) (at : ℕ) (why : NotLegal) → Asks s rule at → IsFoundAt p t at rule s.upper s.lower → IsRefusal p t at rule why → StepTo n t s (Err (C4 n why))
    is_legal : (rule : Rule) (at : ℕ) → Asks s rule at → IsLegalFor p t at rule s.upper s.lower → StepTo n t s (Ok (swapped rule at t))

  -- after the last step: whether the stated plan line is the line of the plan that was reached
  pub data EndsAt (line : List ℕ) (t : PlanTree) : Result PlanTree CertFault → Type 0 where
    same_line : line ≡ line_of p.ops t → EndsAt line t (Ok t)
    other_line : (line ≡ line_of p.ops t → ⊥) → EndsAt line t (Err (C5 (line_of p.ops t)))

  -- the result of the steps from number `n` on, and of the comparison of the line after them
  abbrev pub Follow : List ℕ → ℕ → PlanTree → List Step → Result PlanTree CertFault → Type 0
  Follow line n t [] r = EndsAt line t r
  Follow line n t (s ∷ steps) r = ((fault : CertFault) × StepTo n t s (Err fault) × (r ≡ Err fault)) ⊎ ((u : PlanTree) × StepTo n t s (Ok u) × Follow line (n + 1) u steps r)

  -- Steps are counted from 1.
  abbrev pub Follows : Certificate → Result PlanTree CertFault → Type 0
  Follows c r = Follow c.plan 1 p.plan c.steps r

  -- before any step: whether the certificate's version is the program's
  abbrev pub Checks : Certificate → Result PlanTree CertFault → Type 0
  Checks c r = ((c.version ≡ p.version → ⊥) × (r ≡ Err (C6 c.version p.version))) ⊎ ((c.version ≡ p.version) × Follows c r)

  -- ---- the certificate of given exchanges

  abbrev pub step_of : Condition → Step
  step_of c = record { rule = word_of c.rule; at = name_at p.ops c.at; upper = c.upper; lower = c.lower }

  -- the certificate of exchanges and of the plan that they lead to
  abbrev pub certificate_of : List Condition → PlanTree → Certificate
  certificate_of by end = record { version = p.version; steps = map step_of by; plan = line_of p.ops end }
