-- From the ends of reading and following a certificate to those of the stage.
use Rattle.std.proofs.Common.{◌≡◌, inl, inr, ℕ, List, Result, Ok, Err, refl, subst, sym}
use Rattle.pact_operators.specs.Programs.{ProgramData}
use Rattle.plan_trees.specs.Plans.{PlanTree}
use Rattle.pact_load.specs.Answers.{Decides, Says}
use Rattle.pact_load.specs.declared.refusals.Refusal.{Refusal}
use Rattle.pact_load.specs.declared.refusals.Refusal.TheVariants.{OutOfMemory, Usage, CannotRead, CannotWrite, Decided}
use Rattle.swap_certificate.specs.Checks.{Checks}
use Rattle.swap_certificate.specs.FaultTexts.{fault_text, not_certificate_text}
use Rattle.swap_certificate.specs.Shape.{IsCertificateText}
use Rattle.swap_certificate.specs.declared.certificates.CertFault.{CertFault}
use Rattle.swap_certificate.specs.declared.certificates.CertFault.TheVariants as cert_faults
use Rattle.swap_certificate.specs.declared.certificates.Certificate.{Certificate}
use Rattle.swap_certificate.specs.declared.certificates.NotCertificate.{NotCertificate}
use Rattle.swap_certificate.specs.declared.certificates.NotCertificate.TheVariants.{Shape, Memory}
use Rattle.explain_report.specs.Certificates.{IsFaultRefusal, IsFollowed, IsRefusedWith, IsTextRefusal, followed}

-- ---- one certificate

module _ (p : ProgramData) (c : Certificate) where
  -- a check that failed
  abbrev failed : CertFault → Result PlanTree CertFault
  failed fault = Err fault

  pub follow_fault : (fault : CertFault) (r : Refusal) → ((failed fault ≡ failed cert_faults.Memory → ⊥) → Checks p c (Err fault)) → IsFaultRefusal c fault r → IsFollowed p c (Err r)
  follow_fault cert_faults.Memory r h is = inl is
  follow_fault (cert_faults.C1 step) r h is = inr (cert_faults.C1 step, h (λ e. cc e), is)
  follow_fault (cert_faults.C2 step) r h is = inr (cert_faults.C2 step, h (λ e. cc e), is)
  follow_fault (cert_faults.C3 step upper lower) r h is = inr (cert_faults.C3 step upper lower, h (λ e. cc e), is)
  follow_fault (cert_faults.C4 step why) r h is = inr (cert_faults.C4 step why, h (λ e. cc e), is)
  follow_fault (cert_faults.C5 found) r h is = inr (cert_faults.C5 found, h (λ e. cc e), is)
  follow_fault (cert_faults.C6 stated found) r h is = inr (cert_faults.C6 stated found, h (λ e. cc e), is)

-- ---- the text of a certificate

module _ (p : ProgramData) (text : List ℕ) where
  pub said_refused : (line : List ℕ) (r : Refusal) → Says 9 line r → IsRefusedWith p text line → Decides (followed p text) (Err r)
  said_refused line OutOfMemory said why = tt
  said_refused line Usage said why = absurd said
  said_refused line (CannotRead name) said why = absurd said
  said_refused line CannotWrite said why = absurd said
  said_refused line (Decided status other) said why = (refl, (said.0, subst (IsRefusedWith p text) (sym said.1) why))

  pub followed_text : (c : Certificate) (r : Result PlanTree Refusal) → IsCertificateText text c → IsFollowed p c r → Decides (followed p text) r
  followed_text c (Ok plan) is h = (refl, (c, is, h))
  followed_text c (Err r) is (inl h) = subst (λ (x : Refusal). Decides (followed p text) (Err x)) (sym h) tt
  followed_text c (Err r) is (inr h) = said_refused (fault_text c h.0) r h.2 (inr (c, h.0, is, h.1, refl))

  pub unread_text : (not : NotCertificate) (r : Refusal) → (not ≡ Shape → (c : Certificate) → IsCertificateText text c → ⊥) → IsTextRefusal not r → Decides (followed p text) (Err r)
  unread_text Shape r none said = said_refused not_certificate_text r said (inl (none refl, refl))
  unread_text Memory r none said = subst (λ (x : Refusal). Decides (followed p text) (Err x)) (sym said) tt
