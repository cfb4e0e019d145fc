-- If the files are modelled, each stage of the order of work is decided, and gives only one value.
use Rattle.std.proofs.Common.{◌≡◌, ◌≤◌, ◌⊎◌, inl, inr, ℕ, List, Option, Ok, Err, subst, sym, ◌∙◌, arith}
use Rattle.pact_outside.specs.declared.files.NamedFile.{NamedFile}
use Rattle.pact_operators.specs.declared.operators.Op.{Op}
use Rattle.pact_operators.specs.PlanOps.{sources_of}
use Rattle.plan_trees.specs.Plans.{PlanTree}
use Rattle.pact_operators.specs.Programs.{NamesDiffer, ProgramData}
use Rattle.swap_certificate.specs.declared.certificates.CertFault.{CertFault}
use Rattle.swap_certificate.specs.declared.certificates.Certificate.{Certificate}
use Rattle.swap_certificate.specs.Checks.{Checks}
use Rattle.swap_certificate.proofs.OneResult.{checks-one}
use Rattle.swap_certificate.proofs.OneShape.{text_one}
use Rattle.pact_load.specs.Answers.{AreTold}
use Rattle.pact_load.specs.Stages.{gives}
use Rattle.pact_load.specs.RefusalLines.{usage_line}
use Rattle.pact_top.specs.CommandTexts.{AreTextsOf}
use Rattle.pact_load.specs.Loading.{file, loaded, program, program_file, program_limit, program_of, source_file, sources, valid}
use Rattle.pact_top.specs.Work.{accepted, certificate, certificate_file, certificate_limit, command, ready, ready_for, rechecked, repeated, texts_for, work}
use Rattle.pact_words.specs.Words.{Asked, to_run, to_plan, to_certify, to_tell_sets, to_check, to_generate, to_drill, to_iterate, AreRefused}
use Rattle.pact_words.proofs.OneAsked.{never_both, one_asked}
use Rattle.pact_load.proofs.DecidedLoading.{file-NamesDiffer, file_decided, file_one, loaded_decided, program_file_decided, program_file_one, source_named_decided, source_named_one, sources_decided}
use Rattle.pact_load.proofs.StageLaws.{Agree, GivesOne, IsDecided, StopsSo, agree_then, decided_then, give_agrees, give_alike, one_then, plain_decided, stops_each, stops_give, stops_then}

-- ---- words

command_decided : (words : List (List ℕ)) → IsDecided (command words)
command_decided words = plain_decided _ _ (λ c s l h g. never_both words c h g.0) (λ s t l m h g. h.1 ∙ sym g.1)

command_one : (words : List (List ℕ)) → GivesOne (command words)
command_one words = record { one = λ a b p q h g. one_asked words a b h.1 g.1 }

-- ---- certificates

certificate_decided : (text : List ℕ) → IsDecided (certificate text)
certificate_decided text = plain_decided _ _ (λ c s l h g. g.0 c h) (λ s t l m h g. h.1 ∙ sym g.1)

certificate_one : (text : List ℕ) → GivesOne (certificate text)
certificate_one text = record { one = λ a b p q h g. sym (text_one text a b h.1 g.1) }

certificate_file_decided : (files : Option (List NamedFile)) → AreTold files → (name : List ℕ) → IsDecided (certificate_file files name)
certificate_file_decided files told name = decided_then _ (file_one files told name certificate_limit) (file_decided files told name certificate_limit) (λ text _. certificate_decided text)

certificate_file_one : (files : Option (List NamedFile)) → AreTold files → (name : List ℕ) → GivesOne (certificate_file files name)
certificate_file_one files told name = one_then _ (file_one files told name certificate_limit) (λ text _. certificate_one text)

accepted_or_refused : (p : ProgramData) → NamesDiffer p.ops → (c : Certificate) (plan : PlanTree) (fault : CertFault) → Checks p c (Ok plan) → Checks p c (Err fault) → ⊥
accepted_or_refused p names c plan fault h g = let same = checks-one p names c (Ok plan) (Err fault) h g in absurd (cc)

rechecked_decided : (p : ProgramData) → NamesDiffer p.ops → (c : Certificate) → IsDecided (rechecked p c)
rechecked_decided p names c = plain_decided _ _ (λ plan s l h g. accepted_or_refused p names c plan g.0 h g.1) (λ s t l m h g. h.2 ∙ sym g.2)

-- ---- the commands

accepted_decided : (files : Option (List NamedFile)) → AreTold files → (name other : List ℕ) → IsDecided (accepted files name other)
accepted_decided files told name other =
    decided_then _ (program_file_one files told name) (program_file_decided files told name)
    (λ p from. decided_then _ (certificate_file_one files told other) (certificate_file_decided files told other)
    (λ c _. agree_then _ _ (rechecked_decided p (file-NamesDiffer files name p from.readings from.ends) c) (λ a b _ _. give_agrees _ _)))

repeated_decided : (files : Option (List NamedFile)) → AreTold files → (name source : List ℕ) → IsDecided (repeated files name source)
repeated_decided files told name source =
    decided_then _ (program_file_one files told name) (program_file_decided files told name)
    (λ p from. decided_then _ (source_named_one p (file-NamesDiffer files name p from.readings from.ends) source) (source_named_decided p source)
    (λ at _. agree_then _ _ (sources_decided files told p) (λ a b _ _. give_agrees _ _)))

ready_for_decided : (files : Option (List NamedFile)) → AreTold files → (asked : Asked) → IsDecided (ready_for files asked)
ready_for_decided files told (to_run name options rewrites counts) = agree_then _ _ (loaded_decided files told name) (λ a b _ _. give_agrees _ _)
ready_for_decided files told (to_plan name workers plans) = agree_then _ _ (loaded_decided files told name) (λ a b _ _. give_agrees _ _)
ready_for_decided files told (to_certify name workers plans) = agree_then _ _ (loaded_decided files told name) (λ a b _ _. give_agrees _ _)
ready_for_decided files told (to_tell_sets name) = agree_then _ _ (program_file_decided files told name) (λ a b _ _. give_agrees _ _)
ready_for_decided files told (to_check name other) = agree_then _ _ (accepted_decided files told name other) (λ a b _ _. give_agrees _ _)
ready_for_decided files told (to_generate seed rows) = give_agrees _ _
ready_for_decided files told (to_drill seed rows o rewrites) = give_agrees _ _
ready_for_decided files told (to_iterate name source rounds o stable) = agree_then _ _ (repeated_decided files told name source) (λ a b _ _. give_agrees _ _)

pub work_decided : (words : List (List ℕ)) (files : Option (List NamedFile)) → AreTold files → IsDecided (work words files)
work_decided words files told = decided_then _ (command_one words) (command_decided words) (λ c _. agree_then _ _ (ready_for_decided files told c) (λ a b _ _. give_agrees _ _))

-- the texts can be made whenever their inputs can be read
pub ready_agrees : (words : List (List ℕ)) (files : Option (List NamedFile)) → AreTold files → Agree (work words files) (ready words files)
ready_agrees words files told =
    agree_then _ _ (command_decided words)
    (λ c d hc hd. subst (λ x. Agree (texts_for files c) (ready_for files x)) (one_asked words c d hc.ends.1 hd.ends.1)
    (give_alike (ready_for files c) AreTextsOf (ready_for_decided files told c)))

-- ---- the statuses

-- the words aren't a command, or the files decide the status
abbrev pub IsKnown : List (List ℕ) → ℕ → List ℕ → Type 0
IsKnown words status line = (AreRefused words × (status ≡ 2) × (line ≡ usage_line)) ⊎ ((5 ≤ status) × (status ≤ 9))

between : (n status : ℕ) → status ≡ n → 5 ≤ n → n ≤ 9 → (5 ≤ status) × (status ≤ 9)
between n status e l k = (omega (arith, e, l), omega (arith, e, k))

file_known : (words : List (List ℕ)) (files : Option (List NamedFile)) (name : List ℕ) (limit : ℕ) → StopsSo (IsKnown words) (file files name limit)
file_known words files name limit = record { so = λ s l p h. inr (between 8 s h.1.3 (omega arith) (omega arith)) }

program_known : (words : List (List ℕ)) (name text : List ℕ) → StopsSo (IsKnown words) (program_of name text)
program_known words name text =
    stops_then (IsKnown words) _ (record { so = λ s l p h. inr (between 5 s h.1.3 (omega arith) (omega arith)) })
    (λ d. stops_then (IsKnown words) (program d) (stops_each (IsKnown words) (valid d.fields) (λ f. record { so = λ s l p h. inr (between 6 s h.1.3 (omega arith) (omega arith)) }) d.functions)
    (λ vs. record { so = λ s l p h. inr (between 6 s h.1.3 (omega arith) (omega arith)) }))

program_file_known : (words : List (List ℕ)) (files : Option (List NamedFile)) (name : List ℕ) → StopsSo (IsKnown words) (program_file files name)
program_file_known words files name = stops_then (IsKnown words) _ (file_known words files name program_limit) (λ text. program_known words name text)

source_known : (words : List (List ℕ)) (files : Option (List NamedFile)) (fields : ℕ) (s : Op) → StopsSo (IsKnown words) (source_file fields files s)
source_known words files fields s = stops_then (IsKnown words) _ (file_known words files s.file _) (λ bytes. record { so = λ st l p h. inr (between 7 st h.1.4 (omega arith) (omega arith)) })

certificate_file_known : (words : List (List ℕ)) (files : Option (List NamedFile)) (name : List ℕ) → StopsSo (IsKnown words) (certificate_file files name)
certificate_file_known words files name =
    stops_then (IsKnown words) _ (file_known words files name certificate_limit) (λ text. record { so = λ s l p h. inr (between 9 s h.1.1 (omega arith) (omega arith)) })

rechecked_known : (words : List (List ℕ)) (p : ProgramData) (c : Certificate) → StopsSo (IsKnown words) (rechecked p c)
rechecked_known words p c = record { so = λ s l r h. inr (between 9 s h.1.2 (omega arith) (omega arith)) }

sources_known : (words : List (List ℕ)) (files : Option (List NamedFile)) (p : ProgramData) → StopsSo (IsKnown words) (sources p files)
sources_known words files p = stops_each (IsKnown words) (source_file p.fields files) (source_known words files p.fields) (sources_of p.ops)

loaded_known : (words : List (List ℕ)) (files : Option (List NamedFile)) (name : List ℕ) → StopsSo (IsKnown words) (loaded files name)
loaded_known words files name =
    stops_then (IsKnown words) _ (program_file_known words files name)
    (λ p. stops_then (IsKnown words) _ (sources_known words files p) (λ inputs. stops_give (IsKnown words) _))

repeated_known : (words : List (List ℕ)) (files : Option (List NamedFile)) (name source : List ℕ) → StopsSo (IsKnown words) (repeated files name source)
repeated_known words files name source =
    stops_then (IsKnown words) _ (program_file_known words files name)
    (λ p. stops_then (IsKnown words) _ (record { so = λ s l r h. inr (between 6 s h.1.1 (omega arith) (omega arith)) })
    (λ at. stops_then (IsKnown words) _ (sources_known words files p) (λ inputs. stops_give (IsKnown words) _)))

ready_for_known : (words : List (List ℕ)) (files : Option (List NamedFile)) (asked : Asked) → StopsSo (IsKnown words) (ready_for files asked)
ready_for_known words files (to_run name options rewrites counts) = stops_then (IsKnown words) _ (loaded_known words files name) (λ l. stops_give (IsKnown words) _)
ready_for_known words files (to_plan name workers plans) = stops_then (IsKnown words) _ (loaded_known words files name) (λ l. stops_give (IsKnown words) _)
ready_for_known words files (to_certify name workers plans) = stops_then (IsKnown words) _ (loaded_known words files name) (λ l. stops_give (IsKnown words) _)
ready_for_known words files (to_tell_sets name) = stops_then (IsKnown words) _ (program_file_known words files name) (λ p. stops_give (IsKnown words) _)
ready_for_known words files (to_check name other) =
    stops_then (IsKnown words) _ (stops_then (IsKnown words) _ (program_file_known words files name)
    (λ p. stops_then (IsKnown words) _ (certificate_file_known words files other)
    (λ c. stops_then (IsKnown words) _ (rechecked_known words p c) (λ plan. stops_give (IsKnown words) _))))
    (λ a. stops_give (IsKnown words) _)
ready_for_known words files (to_generate seed rows) = stops_give (IsKnown words) _
ready_for_known words files (to_drill seed rows o rewrites) = stops_give (IsKnown words) _
ready_for_known words files (to_iterate name source rounds o stable) = stops_then (IsKnown words) _ (repeated_known words files name source) (λ r. stops_give (IsKnown words) _)

pub work_known : (words : List (List ℕ)) (files : Option (List NamedFile)) → StopsSo (IsKnown words) (work words files)
work_known words files = stops_then (IsKnown words) _ (record { so = λ s l p h. inl h.1 }) (λ c. stops_then (IsKnown words) _ (ready_for_known words files c) (λ r. stops_give (IsKnown words) _))
