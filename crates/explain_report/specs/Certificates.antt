-- What checking a certificate comes to: the plan that it leads to, or the line of its refusal.
use Rattle.std.specs.Prelude.{◌≡◌, ◌⊎◌, ℕ, List, Result, Ok, Err}
use Rattle.pact_operators.specs.Programs.{ProgramData}
use Rattle.plan_trees.specs.Plans.{PlanTree}
use Rattle.pact_load.specs.Answers.{Says}
use Rattle.pact_load.specs.Stages.{Stage, plain}
use Rattle.pact_load.specs.declared.refusals.Refusal.{Refusal}
use Rattle.pact_load.specs.declared.refusals.Refusal.TheVariants.{OutOfMemory}
use Rattle.swap_certificate.specs.Checks.{Checks}
use Rattle.swap_certificate.specs.FaultTexts.{fault_text, not_certificate_text}
use Rattle.swap_certificate.specs.Shape.{IsCertificateText}
use Rattle.swap_certificate.specs.declared.certificates.CertFault.{CertFault}
use Rattle.swap_certificate.specs.declared.certificates.CertFault.TheVariants as cert_faults
use Rattle.swap_certificate.specs.declared.certificates.Certificate.{Certificate}
use Rattle.swap_certificate.specs.declared.certificates.NotCertificate.{NotCertificate}
use Rattle.swap_certificate.specs.declared.certificates.NotCertificate.TheVariants as unread

-- ---- texts of certificates

-- the text is a certificate that leads to this plan of the program
abbrev pub LeadsTo : ProgramData → List ℕ → PlanTree → Type 0
LeadsTo p text plan = (c : Certificate) × IsCertificateText text c × Checks p c (Ok plan)

-- The line is that of a text that isn't a certificate, or that of the fault that the certificate has.
abbrev pub IsRefusedWith : ProgramData → List ℕ → List ℕ → Type 0
IsRefusedWith p text line =
    (((c : Certificate) → IsCertificateText text c → ⊥) × (line ≡ not_certificate_text))
    ⊎ ((c : Certificate) × (fault : CertFault) × IsCertificateText text c × Checks p c (Err fault) × (line ≡ fault_text c fault))

-- the plan that the certificate in a text leads to
abbrev pub followed : ProgramData → List ℕ → Stage PlanTree
followed p text = plain (LeadsTo p text) (λ status line. (status ≡ 9) × IsRefusedWith p text line)

-- ---- certificates

-- out of memory, or the line of a text that isn't a certificate
abbrev pub IsTextRefusal : NotCertificate → Refusal → Type 0
IsTextRefusal unread.Shape r = Says 9 not_certificate_text r
IsTextRefusal unread.Memory r = r ≡ OutOfMemory

-- out of memory, or the line of the certificate's fault
abbrev pub IsFaultRefusal : Certificate → CertFault → Refusal → Type 0
IsFaultRefusal c cert_faults.Memory r = r ≡ OutOfMemory
IsFaultRefusal c fault r = Says 9 (fault_text c fault) r

-- what following a certificate results in
abbrev pub IsFollowed : ProgramData → Certificate → Result PlanTree Refusal → Type 0
IsFollowed p c (Ok plan) = Checks p c (Ok plan)
IsFollowed p c (Err r) = (r ≡ OutOfMemory) ⊎ ((fault : CertFault) × Checks p c (Err fault) × Says 9 (fault_text c fault) r)
