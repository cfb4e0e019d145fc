-- The steps that are written down one after another, and the certificate that they form.
use Rattle.std.proofs.Common.{◌≡◌, ◌+◌, ◌<◌, ◌≤◌, ℕ, List, [], ◌∷◌, ◌++◌, length, map, take, get_or, inr, Ok, refl, sym, ap, subst, ◌∙◌}
use Rattle.std.proofs.lemmas.List.{map-append, take_all, take_more}
use Rattle.plan_trees.specs.Plans.{PlanTree, IsPlan}
use Rattle.pact_operators.specs.Programs.{AreNames, IsProgram, ProgramData}
use Rattle.reorder_pair.specs.declared.legality.Condition.{Condition}
use Rattle.reorder_pair.specs.ToldExchanges.{Lead}
use Rattle.swap_certificate.specs.declared.certificates.Certificate.{Certificate}
use Rattle.swap_certificate.specs.declared.certificates.Step.{Step}
use Rattle.swap_certificate.specs.Checks.{Checks, certificate_of, step_of}
use Rattle.swap_certificate.specs.PlanLines.{line_of}
use Rattle.swap_certificate.specs.Shape.{MayBeStated}
use Rattle.swap_certificate.proofs.AcceptedSteps.{lead-Follow}
use Rattle.swap_certificate.proofs.StatedSteps.{lead-MayBeStep}
use Rattle.swap_certificate.proofs.WritableTexts.{line_of-IsShortText}

module _ (p : ProgramData) (by : List Condition) where
  -- these steps state the first exchanges
  pub record AreWritten (count : ℕ) (steps : List Step) : Type 0 where
    pub steps_are : steps ≡ map (step_of p) (take count by)

  pub written-next : (i : ℕ) (c : Condition) (steps longer : List Step) (s : Step) → c ≡ get_or by i c → i < length by → longer ≡ steps ++ s ∷ [] → s ≡ step_of p c
      → AreWritten i steps → AreWritten (i + 1) longer
  written-next i c steps longer s is within more states h =
      let one_more : take (i + 1) by ≡ take i by ++ c ∷ [] = take_more by i c within ∙ ap (λ (d : Condition). take i by ++ d ∷ []) (sym is) in
      record {
        steps_are = more ∙ (λ k. h.steps_are k ++ states k ∷ []) ∙ sym (map-append (step_of p) (take i by) (c ∷ [])) ∙ ap (map (step_of p)) (sym one_more);
      }

  module _ (count version : ℕ) (version_is : version ≡ p.version) (steps : List Step) (end : PlanTree) (line : List ℕ) (past : length by ≤ count) (written : AreWritten count steps) (line_is : line ≡ line_of p.ops end) where
    all_steps : steps ≡ map (step_of p) by
    all_steps = written.steps_are ∙ ap (map (step_of p)) (take_all count by past)

    -- these steps and the line are the certificate, so it is accepted and may be written
    pub written-certificate_of : ◌≡◌ {A = Certificate} (record { version = version; steps = steps; plan = line }) (certificate_of p by end)
    written-certificate_of = λ i. record { version = version_is i; steps = all_steps i; plan = line_is i }

    pub written-Checks : Lead p p.plan by end → Checks p (record { version = version; steps = steps; plan = line }) (Ok end)
    written-Checks lead = subst (λ (c : Certificate). Checks p c (Ok end)) (sym written-certificate_of) (inr (refl, lead-Follow p 1 p.plan end by lead))

    pub written-MayBeStated : IsProgram p → IsPlan end → AreNames p.ops → Lead p p.plan by end → MayBeStated (record { version = version; steps = steps; plan = line })
    written-MayBeStated program plan names lead = subst MayBeStated (sym written-certificate_of) (record {
      version = program.version;
      steps = lead-MayBeStep p program names p.plan end by lead;
      plan = line_of-IsShortText p.ops names end plan;
    })
