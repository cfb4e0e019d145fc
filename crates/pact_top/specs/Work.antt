-- The order of work, one stage after another: which ends the words and the files can lead to.
use Rattle.std.specs.Prelude.{◌≡◌, ℕ, List, Option, Ok, Err}
use Rattle.pact_operators.specs.Programs.{ProgramData}
use Rattle.pact_outside.specs.declared.files.NamedFile.{NamedFile}
use Rattle.pact_words.specs.Words.{Asked, to_run, to_plan, to_certify, to_tell_sets, to_check, to_generate, to_drill, to_iterate, AreRefused, IsAsked}
use Rattle.plan_trees.specs.Plans.{PlanTree}
use Rattle.swap_certificate.specs.declared.certificates.CertFault.{CertFault}
use Rattle.swap_certificate.specs.declared.certificates.Certificate.{Certificate}
use Rattle.swap_certificate.specs.Checks.{Checks}
use Rattle.swap_certificate.specs.FaultTexts.{fault_text, not_certificate_text}
use Rattle.swap_certificate.specs.Shape.{IsCertificateText}
use Rattle.pact_top.specs.CommandTexts.{Accepted, Ready, ready_run, ready_plan, ready_cert, ready_sets, ready_check, ready_gen, ready_drill, ready_iterate, AreTextsOf}
use Rattle.pact_top.specs.declared.repeating.IterationInput.{IterationInput}
use Rattle.pact_top.specs.declared.texts.Texts.{Texts}
use Rattle.pact_load.specs.Loading.{file, loaded, program_file, source_named, sources}
use Rattle.pact_load.specs.RefusalLines.{usage_line}
use Rattle.pact_load.specs.Stages.{Stage, and_then, plain, give}

-- ---- words

-- the command that the words ask for
abbrev pub command : List (List ℕ) → Stage Asked
command words = plain (IsAsked words) (λ status line. AreRefused words × (status ≡ 2) × (line ≡ usage_line))

-- ---- certificates

-- the most bytes that a certificate file may have
abbrev pub certificate_limit : ℕ
certificate_limit = 1048576

-- the certificate that a text spells
abbrev pub certificate : List ℕ → Stage Certificate
certificate text = plain (IsCertificateText text) (λ status line. ((c : Certificate) → IsCertificateText text c → ⊥) × (status ≡ 9) × (line ≡ not_certificate_text))

abbrev pub certificate_file : Option (List NamedFile) → List ℕ → Stage Certificate
certificate_file files name = and_then (file files name certificate_limit) certificate

-- the plan that a certificate leads to
abbrev pub rechecked : ProgramData → Certificate → Stage PlanTree
rechecked p c = plain (λ plan. Checks p c (Ok plan)) (λ status line. (fault : CertFault) × Checks p c (Err fault) × (status ≡ 9) × (line ≡ fault_text c fault))

-- ---- commands

abbrev pub accepted : Option (List NamedFile) → List ℕ → List ℕ → Stage Accepted
accepted files name other =
    and_then (program_file files name) (λ p. and_then (certificate_file files other) (λ c. and_then (rechecked p c) (λ plan. give (λ all. all ≡ record { program = p; certificate = c; plan = plan }))))

abbrev pub repeated : Option (List NamedFile) → List ℕ → List ℕ → Stage IterationInput
repeated files name source =
    and_then (program_file files name) (λ p. and_then (source_named p source) (λ at.
    and_then (sources p files) (λ inputs. give (λ all. all ≡ record { loaded = record { program = p; inputs = inputs }; at = at }))))

-- a stage that reads no file
abbrev pub at_once : Ready → Stage Texts
at_once y = and_then (give (λ r. r ≡ y)) (λ r. give (AreTextsOf r))

-- the order of work of each command; `gen` and `drill` read no file
abbrev pub ready_for : Option (List NamedFile) → Asked → Stage Ready
ready_for files (to_run name o rewrites counts) = and_then (loaded files name) (λ l. give (λ r. r ≡ ready_run l o.workers o.plans counts rewrites.prune rewrites.combine))
ready_for files (to_plan name workers plans) = and_then (loaded files name) (λ l. give (λ r. r ≡ ready_plan l workers plans))
ready_for files (to_certify name workers plans) = and_then (loaded files name) (λ l. give (λ r. r ≡ ready_cert l workers plans))
ready_for files (to_tell_sets name) = and_then (program_file files name) (λ p. give (λ r. r ≡ ready_sets p))
ready_for files (to_check name other) = and_then (accepted files name other) (λ a. give (λ r. r ≡ ready_check a))
ready_for files (to_generate seed rows) = give (λ r. r ≡ ready_gen seed rows)
ready_for files (to_drill seed rows o rewrites) = give (λ r. r ≡ ready_drill seed rows)
ready_for files (to_iterate name source rounds o stable) = and_then (repeated files name source) (λ i. give (λ r. r ≡ ready_iterate i rounds stable))

abbrev pub texts_for : Option (List NamedFile) → Asked → Stage Texts
texts_for files asked = and_then (ready_for files asked) (λ r. give (AreTextsOf r))

-- what is read before a text is made
abbrev pub ready : List (List ℕ) → Option (List NamedFile) → Stage Ready
ready words files = and_then (command words) (ready_for files)

-- all stages, from the words to the texts
abbrev pub work : List (List ℕ) → Option (List NamedFile) → Stage Texts
work words files = and_then (command words) (texts_for files)
