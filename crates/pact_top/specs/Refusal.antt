-- Refusals of certificates, and answers to the words of the command line.
use Rattle.std.specs.Prelude.{◌≡◌, ◌≤◌, ◌⊎◌, ℕ, Bool, true, List, Some, Result, Ok, Err, IsTrue}
use Rattle.pact_outside.specs.Outside.{Feeding}
use Rattle.pact_words.specs.declared.commands.Command.{Command}
use Rattle.pact_words.specs.declared.commands.Options.{Options}
use Rattle.pact_words.specs.declared.commands.Refused.{Refused}
use Rattle.pact_words.specs.declared.commands.Refused.TheVariants as refuseds
use Rattle.pact_words.specs.declared.commands.Rewrites.{Rewrites}
use Rattle.pact_words.specs.Words.{Answers as AreAnswersTo, Asked, asked, to_run, to_plan, to_certify, to_tell_sets, to_check, to_generate, to_drill, to_iterate, AreRefused, AreUnnamed, IsAsked}
use Rattle.tac_syntax.specs.Names.{is_file_name}
use Rattle.pact_operators.specs.Programs.{ProgramData}
use Rattle.plan_trees.specs.Plans.{PlanTree}
use Rattle.reorder_pair.specs.Legal.{KeepAnswers}
use Rattle.reorder_pair.specs.Reach.{Reach}
use Rattle.swap_certificate.specs.declared.certificates.CertFault.{CertFault}
use Rattle.swap_certificate.specs.declared.certificates.CertFault.TheVariants as cert_faults
use Rattle.swap_certificate.specs.declared.certificates.Certificate.{Certificate}
use Rattle.swap_certificate.specs.declared.certificates.NotCertificate.{NotCertificate}
use Rattle.swap_certificate.specs.declared.certificates.NotCertificate.TheVariants as unread
use Rattle.swap_certificate.specs.FaultTexts.{fault_text, not_certificate_text}
use Rattle.swap_certificate.specs.PlanLines as plan_lines
use Rattle.pact_load.specs.Answers.{ComesTo, Decides, HasFailed, Says}
use Rattle.pact_load.specs.RefusalLines.{usage_line}
use Rattle.pact_load.specs.Stages.{gives, stops}
use Rattle.pact_top.specs.Work.{rechecked, work}
use Rattle.pact_load.specs.declared.refusals.Refusal.{Refusal}
use Rattle.pact_load.specs.declared.refusals.Refusal.TheVariants.{OutOfMemory, Usage, CannotRead, CannotWrite, Decided}
use Rattle.pact_top.specs.declared.texts.Texts.{Texts}

-- ---- certificates

-- the refusal of a text that isn't a certificate, and of a certificate with a fault
abbrev pub CertificateUnread : NotCertificate → Refusal → Type 0
CertificateUnread unread.Shape r = Says 9 not_certificate_text r
CertificateUnread unread.Memory r = r ≡ OutOfMemory

abbrev pub CertificateRefused : Certificate → CertFault → Refusal → Type 0
CertificateRefused c cert_faults.Memory r = r ≡ OutOfMemory
CertificateRefused c fault r = Says 9 (fault_text c fault) r

-- The certificate leads to this plan: it states the plan's line, legal exchanges lead to the plan, and the plan allows
-- the bags of the plan as written.
pub record IsPlanReached (p : ProgramData) (c : Certificate) (plan : PlanTree) : Type 0 where
  pub decides : Decides (rechecked p c) (Ok plan)
  pub line : c.plan ≡ plan_lines.line_of p.ops plan
  pub reached : Reach p plan
  pub answers : KeepAnswers p p.plan plan

-- what following a certificate results in
abbrev pub IsRechecked : ProgramData → Certificate → Result PlanTree Refusal → Type 0
IsRechecked p c (Ok plan) = IsPlanReached p c plan
IsRechecked p c (Err refusal) = Decides (rechecked p c) (Err refusal)

-- the command names the file
abbrev pub Names : Asked → List ℕ → Type 0
Names (to_run program options rewrites counts) name = name ≡ program
Names (to_plan program workers plans) name = name ≡ program
Names (to_certify program workers plans) name = name ≡ program
Names (to_tell_sets program) name = name ≡ program
Names (to_check program certificate) name = (name ≡ program) ⊎ (name ≡ certificate)
Names (to_generate seed rows) name = ⊥
Names (to_drill seed rows options rewrites) name = ⊥
Names (to_iterate program source rounds options stable) name = name ≡ program

-- the words ask for counts
abbrev pub AskForCounts : List (List ℕ) → Type 0
AskForCounts words = (program : List ℕ) × (options : Options) × (rewrites : Rewrites) × IsAsked words (to_run program options rewrites true)

-- the words ask for the number of rounds
abbrev pub AskForRounds : List (List ℕ) → Type 0
AskForRounds words = (program : List ℕ) × (source : List ℕ) × (rounds : ℕ) × (options : Options) × IsAsked words (to_iterate program source rounds options true)

-- the words ask for a text on standard error
abbrev pub AskForMore : List (List ℕ) → Type 0
AskForMore words = AskForCounts words ⊎ AskForRounds words

-- how many threads a command asks for: one for each worker of a run, a drill or an iteration, and none for other
-- commands
abbrev pub threads_for : Asked → ℕ
threads_for (to_run program options rewrites counts) = options.workers
threads_for (to_plan program workers plans) = 0
threads_for (to_certify program workers plans) = 0
threads_for (to_tell_sets program) = 0
threads_for (to_check program certificate) = 0
threads_for (to_generate seed rows) = 0
threads_for (to_drill seed rows options rewrites) = options.workers
threads_for (to_iterate program source rounds options stable) = options.workers

-- how many threads the words ask for: none if no command was read
abbrev pub threads_asked : Result Command Refused → ℕ
threads_asked (Ok command) = threads_for (asked command)
threads_asked (Err refused) = 0

-- The words name this file, or it is a name that a program can have.
abbrev pub IsNamed : List (List ℕ) → List ℕ → Type 0
IsNamed words name = ((command : Asked) × IsAsked words command × Names command name) ⊎ IsTrue (is_file_name name)

-- why there is no text
abbrev pub IsRefused : List (List ℕ) → Feeding → Feeding → Refusal → Type 0
IsRefused words before now OutOfMemory = Unit {0}
IsRefused words before now Usage = AreRefused words × ComesTo (work words before.files) before now (stops 2 usage_line)
IsRefused words before now (CannotRead name) = HasFailed (work words before.files) before now name × IsNamed words name
IsRefused words before now CannotWrite = ⊥
IsRefused words before now (Decided status line) = (5 ≤ status) × (status ≤ 9) × ComesTo (work words before.files) before now (stops status line)

-- the texts that the work results in; one for standard error only if the words ask for it
pub record AreAnswered (words : List (List ℕ)) (before now : Feeding) (texts : Texts) : Type 0 where
  pub texts_are : ComesTo (work words before.files) before now (gives texts)
  pub told : (text : List ℕ) → texts.told ≡ Some text → AskForMore words

-- the texts, or the reason why there are none
abbrev pub IsAnswerOrRefusal : List (List ℕ) → Feeding → Feeding → Result Texts Refusal → Type 0
IsAnswerOrRefusal words before now (Ok texts) = AreAnswered words before now texts
IsAnswerOrRefusal words before now (Err refusal) = IsRefused words before now refusal

-- The refusal says that no command is asked for, or that memory ran out as the words were read. Memory never runs out
-- if the words name no command.
abbrev pub IsUsageRefusal : List (List ℕ) → Result Texts Refusal → Type 0
IsUsageRefusal words (Err OutOfMemory) = ¬ (AreUnnamed words)
IsUsageRefusal words (Err Usage) = Unit {0}
IsUsageRefusal words result = ⊥

-- the answer to the words; words that ask for no command leave the feed unchanged
pub record IsAnswered (words : List (List ℕ)) (Untouched : Type 0) (before now : Feeding) (result : Result Texts Refusal) : Type 0 where
  pub told : IsAnswerOrRefusal words before now result
  pub usage : AreRefused words → IsUsageRefusal words result
  pub untouched : AreRefused words → Untouched

-- why there are no texts if no command was read
abbrev pub refusal_of : Refused → Refusal
refusal_of refuseds.Usage = Usage
refusal_of refuseds.OutOfMemory = OutOfMemory

-- what reading the words resulted in
pub record AreReadAs (words : List (List ℕ)) (read : Result Command Refused) : Type 0 where
  pub answers : AreAnswersTo words read
  pub unnamed : AreUnnamed words → read ≡ Err refuseds.Usage

-- a call that answers any words that were read with this result
pub record AnswersWords (read : Result Command Refused) (Untouched : Type 0) (before now : Feeding) (result : Result Texts Refusal) : Type 0 where
  pub answered : (words : List (List ℕ)) → AreReadAs words read → IsAnswered words Untouched before now result
