-- Where the reading of a certificate ends.
use Rattle.std.proofs.Common.{◌≡◌, ℕ, List, Err, refl, subst, sym}
use Rattle.swap_certificate.specs.declared.certificates.Certificate.{Certificate}
use Rattle.swap_certificate.specs.declared.certificates.NotCertificate.{NotCertificate}
use Rattle.swap_certificate.specs.declared.certificates.NotCertificate.TheVariants.{Shape, Memory}
use Rattle.swap_certificate.specs.FaultTexts.{not_certificate_text}
use Rattle.swap_certificate.specs.Shape.{IsCertificateText}
use Rattle.pact_load.specs.declared.refusals.Refusal.{Refusal}
use Rattle.pact_load.specs.declared.refusals.Refusal.TheVariants.{OutOfMemory, Usage, CannotRead, CannotWrite, Decided}
use Rattle.pact_load.specs.Answers.{Decides, Says}
use Rattle.pact_top.specs.Refusal.{CertificateUnread}
use Rattle.pact_top.specs.Work.{certificate}

module _ (text : List ℕ) where
  no_certificate : (r : Refusal) → ((c : Certificate) → IsCertificateText text c → ⊥) → Says 9 not_certificate_text r → Decides (certificate text) (Err r)
  no_certificate OutOfMemory none said = tt
  no_certificate Usage none said = absurd said
  no_certificate (CannotRead name) none said = absurd said
  no_certificate CannotWrite none said = absurd said
  no_certificate (Decided status line) none said = (refl, (none, said.0, said.1))

  pub unread-Decides : (not : NotCertificate) (r : Refusal) → (not ≡ Shape → (c : Certificate) → IsCertificateText text c → ⊥) → CertificateUnread not r → Decides (certificate text) (Err r)
  unread-Decides Shape r none told = no_certificate r (none refl) told
  unread-Decides Memory r none told = subst (λ (x : Refusal). Decides (certificate text) (Err x)) (sym told) tt
