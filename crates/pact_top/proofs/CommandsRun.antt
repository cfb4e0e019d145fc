-- The commands, from the words to the texts.
use Rattle.std.proofs.Common.{◌≡◌, inl, inr, ℕ, Bool, true, false, List, Option, Some, None, Result, Ok, Err, refl, sym, subst, arith}
use Rattle.pact_operators.specs.Allowed.{Bag}
use Rattle.pact_operators.specs.Programs.{IsProgram, ProgramData}
use Rattle.pact_outside.specs.declared.files.NamedFile.{NamedFile}
use Rattle.pact_outside.specs.Outside.{Feeding}
use Rattle.plan_trees.specs.Plans.{PlanTree}
use Rattle.swap_certificate.specs.declared.certificates.Certificate.{Certificate}
use Rattle.pact_top.specs.CommandTexts.{Accepted, AllowsWritten, AreCounts, AreTextsOf, IsAcceptance, IsAnswerOf, IsOutAlone, Ready, ready_check, ready_sets, ready_run, ready_cert, ready_gen, ready_iterate, ready_plan, ready_drill}
use Rattle.bag_lines.specs.Lines.{AreLines}
use Rattle.pact_load.specs.declared.loaded.Loaded.{Loaded}
use Rattle.pact_load.specs.declared.refusals.Refusal.{Refusal}
use Rattle.pact_load.specs.declared.refusals.Refusal.TheVariants.{OutOfMemory, Usage, CannotRead, CannotWrite, Decided}
use Rattle.pact_top.specs.declared.texts.Texts.{Texts}
use Rattle.pact_load.specs.Answers.{Answers, Comes, ComesTo, Decides}
use Rattle.pact_top.specs.Refusal.{AnswersWords, AskForMore, refusal_of, IsAnswered, IsRefused, IsAnswerOrRefusal, IsUsageRefusal}
use Rattle.pact_load.specs.Stages.{Reading, Stage, and_then, give, gives, stops}
use Rattle.pact_load.specs.RefusalLines.{usage_line}
use Rattle.pact_load.specs.Loading.{loaded, program_file}
use Rattle.pact_top.specs.Work.{accepted, at_once, certificate_file, command, ready_for, rechecked, repeated, texts_for, work}
use Rattle.pact_words.specs.declared.commands.Command.{Command}
use Rattle.pact_words.specs.declared.commands.Refused.{Refused}
use Rattle.pact_words.specs.declared.commands.Refused.TheVariants as refuseds
use Rattle.pact_words.specs.Words.{Answers as AreAnswersTo, AreRefused, Asked, IsAsked, to_certify, to_check, to_drill, to_generate, to_iterate, to_plan, to_run, to_tell_sets}
use Rattle.pact_load.proofs.AnswersOfStages.{comes_in_err, comes_decided, comes_err, comes_then, decides_err, decides_then}
use Rattle.pact_top.proofs.DecidedStages.{IsKnown, work_known}
use Rattle.pact_top.proofs.OnlyBag.{one_text, only_bag}
use Rattle.pact_top.proofs.SourceNames.{work_fails}
use Rattle.pact_load.proofs.StageLaws.{gave_then}

-- ---- what is made of what was read

-- the order of work of a command that makes its texts from what it has read
abbrev made : {X : Type 0} → (Option (List NamedFile) → Stage X) → (X → Ready) → Option (List NamedFile) → Stage Ready
made stage make files = and_then (stage files) (λ x. give (λ r. r ≡ make x))

module _ {X : Type 0} (stage : Option (List NamedFile) → Stage X) (make : X → Ready) {before now : Feeding} where
  pub made_err : (r : Refusal) → Comes stage before now (Err r) → Comes (λ f. and_then (made stage make f) (λ y. give (AreTextsOf y))) before now (Err r)
  made_err r h = comes_err {A = Ready} {s = made stage make} (λ f y. give (AreTextsOf y)) r (comes_err {A = X} {s = stage} (λ f x. give (λ y. y ≡ make x)) r h)

  pub made_texts : (x : X) (texts : Texts) → Comes stage before now (Ok x) → AreTextsOf (make x) texts → Comes (λ f. and_then (made stage make f) (λ y. give (AreTextsOf y))) before now (Ok texts)
  made_texts x texts h are =
      comes_decided {A = Ready} {s = made stage make} (λ y. give (AreTextsOf y)) (make x) (Ok texts)
      (comes_decided {A = X} {s = stage} (λ z. give (λ y. y ≡ make z)) x (Ok (make x)) h (refl, refl))
      (refl, are)

-- ---- run

-- a bag that the program as written allows, its lines, and the counts of the same evaluation if they are asked for
pub is_answer : (l : Loaded) (workers plans : ℕ) (counts prune combine : Bool) (t : Texts) (bag : Bag) → IsProgram l.program → AllowsWritten l bag → AreLines l.program.sink bag t.out
    → AreCounts l workers plans prune combine bag counts t.told → IsAnswerOf l workers plans counts prune combine t
is_answer l workers plans counts prune combine t bag program allowed lines counted =
    record {
      bag = bag;
      allowed = allowed;
      lines = lines;
      counted = counted;
      only_bag = λ free other also. only_bag l.program program free l.inputs l.program.plan bag other allowed also;
      only_text = λ free other spelled also its. sym (one_text l.program.sink bag other t.out spelled (only_bag l.program program free l.inputs l.program.plan bag other allowed also) lines its);
    }

-- ---- check

-- the stages after the certificate was read, and those after the program was read
abbrev behind_certificate : ProgramData → Certificate → Stage Accepted
behind_certificate p c = and_then (rechecked p c) (λ plan. give (λ all. all ≡ record { program = p; certificate = c; plan = plan }))

abbrev behind_program : List ℕ → Option (List NamedFile) → ProgramData → Stage Accepted
behind_program other files p = and_then (certificate_file files other) (behind_certificate p)

module _ {before now : Feeding} (name other : List ℕ) where
  -- a refusal of the command's own stages is a refusal of the command
  to_check_err : (r : Refusal) → Comes (λ f. accepted f name other) before now (Err r) → Comes (λ f. texts_for f (to_check name other)) before now (Err r)
  to_check_err r h =
      comes_err {A = Ready} {s = λ f. ready_for f (to_check name other)} (λ f y. give (AreTextsOf y)) r (comes_err {A = Accepted} {s = λ f. accepted f name other} (λ f a. give (λ y. y ≡ ready_check a)) r h)

  pub check_program : (r : Refusal) → Comes (λ f. program_file f name) before now (Err r) → Comes (λ f. texts_for f (to_check name other)) before now (Err r)
  check_program r h = to_check_err r (comes_err (behind_program other) r h)

  module _ {mid : Feeding} (p : ProgramData) (h : Comes (λ f. program_file f name) before mid (Ok p)) where
    pub check_certificate : (r : Refusal) → Comes (λ f. certificate_file f other) mid now (Err r) → Comes (λ f. texts_for f (to_check name other)) before now (Err r)
    check_certificate r g = to_check_err r (comes_then (behind_program other) p (Err r) h (comes_err (λ f. behind_certificate p) r g))

    module _ (c : Certificate) (g : Comes (λ f. certificate_file f other) mid now (Ok c)) where
      pub check_refused : (r : Refusal) → Decides (rechecked p c) (Err r) → Comes (λ f. texts_for f (to_check name other)) before now (Err r)
      check_refused r d =
          to_check_err r
          (comes_then (behind_program other) p (Err r) h
          (comes_decided {s = λ f. certificate_file f other} (behind_certificate p) c (Err r) g (decides_err (rechecked p c) (λ plan. give (λ all. all ≡ record { program = p; certificate = c; plan = plan })) r d)))

      pub check_told : (plan : PlanTree) (texts : Texts) → Decides (rechecked p c) (Ok plan) → IsOutAlone (IsAcceptance (record { program = p; certificate = c; plan = plan })) texts
          → Comes (λ f. texts_for f (to_check name other)) before now (Ok texts)
      check_told plan texts d acceptance =
          let a : Accepted = record { program = p; certificate = c; plan = plan } in
          comes_decided {A = Ready} {s = λ f. ready_for f (to_check name other)} (λ y. give (AreTextsOf y)) (ready_check a) (Ok texts)
          (comes_decided {A = Accepted} {s = λ f. accepted f name other} (λ x. give (λ y. y ≡ ready_check x)) a (Ok (ready_check a))
          (comes_then (behind_program other) p (Ok a) h
          (comes_decided {s = λ f. certificate_file f other} (behind_certificate p) c (Ok a) g
          (decides_then (rechecked p c) (λ reached. give (λ all. all ≡ record { program = p; certificate = c; plan = reached })) plan (Ok a) d (refl, refl))))
          (refl, refl))
          (refl, acceptance)

-- ---- gen and drill

-- what is made without reading a file
pub made_alone : (y : Ready) (texts : Texts) → AreTextsOf y texts → Decides (at_once y) (Ok texts)
made_alone y texts are = decides_then (give (λ r. r ≡ y)) (λ r. give (AreTextsOf r)) y (Ok texts) (refl, refl) (refl, are)

-- ---- all commands

no_words : (words : List (List ℕ)) (status : ℕ) (line : List ℕ) → IsKnown words status line → status ≡ 2 → AreRefused words
no_words words status line (inl k) e = k.0
no_words words status line (inr k) e = let l = k.0 in absurd (omega (arith, l, e))

stop_refused : (words : List (List ℕ)) (before now : Feeding) (status : ℕ) (line : List ℕ) → ¬ (AreRefused words)
    → ComesTo (work words before.files) before now (stops status line) → IsKnown words status line → IsRefused words before now (Decided status line)
stop_refused words before now status line usage h (inl k) = absurd (usage k.0)
stop_refused words before now status line usage h (inr k) = (k.0, k.1, h)

refused_so : (words : List (List ℕ)) (before now : Feeding) (r : Refusal) → (AreRefused words → IsUsageRefusal words (Err r)) → Answers (work words before.files) before now (Err r) → IsRefused words before now r
refused_so words before now OutOfMemory usage h = tt
refused_so words before now Usage usage h = (no_words words 2 usage_line ((work_known words before.files).so 2 usage_line h.readings h.ends) refl, h)
refused_so words before now (CannotRead name) usage h = (h, (work_fails words before.files).so name h.readings h.ends)
refused_so words before now CannotWrite usage h = absurd h
refused_so words before now (Decided status line) usage h = stop_refused words before now status line usage h ((work_known words before.files).so status line h.readings h.ends)

-- ---- a text for standard error only if the words ask for it

-- what was read is for a command with a text for standard error
abbrev IsForMore : Ready → Type 0
IsForMore (ready_run l workers plans counts prune combine) = counts ≡ true
IsForMore (ready_iterate r rounds stable) = stable ≡ true
IsForMore y = ⊥

told_for : (y : Ready) (texts : Texts) (text : List ℕ) → AreTextsOf y texts → texts.told ≡ Some text → IsForMore y
told_for (ready_run l workers plans true prune combine) texts text are told = refl
told_for (ready_run l workers plans false prune combine) texts text are told = let none : texts.told ≡ None = are.counted in absurd cc
told_for (ready_iterate r rounds true) texts text are told = refl
told_for (ready_iterate r rounds false) texts text are told = let none : texts.told ≡ None = are.told in absurd cc
told_for (ready_plan l workers plans) texts text are told = let none = are.1 in absurd cc
told_for (ready_cert l workers plans) texts text are told = let none = are.1 in absurd cc
told_for (ready_sets p) texts text are told = let none = are.1 in absurd cc
told_for (ready_check a) texts text are told = let none = are.1 in absurd cc
told_for (ready_gen seed rows) texts text are told = let none = are.1 in absurd cc
told_for (ready_drill seed rows) texts text are told = let none = are.1 in absurd cc

-- a command makes `Ready` from the value that its stages give
gave_made : {A : Type 0} (s : Stage A) (make : A → Ready) (p : List Reading) (y : Ready) → (and_then s (λ x. give (λ r. r ≡ make x))).Ends p (gives y) → (x : A) × (y ≡ make x)
gave_made s make p y h = let made = gave_then s (λ x. give (λ r. r ≡ make x)) p y h in (made.value, made.next.1)

-- such a command comes only from words that ask for a text on standard error
asks : (words : List (List ℕ)) (files : Option (List NamedFile)) (c : Asked) (p : List Reading) (y : Ready) → IsAsked words c → (ready_for files c).Ends p (gives y) → IsForMore y → AskForMore words
asks words files (to_run name o rewrites counts) p y asked h more =
    let e = subst IsForMore (gave_made (loaded files name) (λ x. ready_run x o.workers o.plans counts rewrites.prune rewrites.combine) p y h).1 more in
    inl (name, o, rewrites, subst (λ (b : Bool). IsAsked words (to_run name o rewrites b)) e asked)
asks words files (to_iterate name source rounds o stable) p y asked h more =
    let e = subst IsForMore (gave_made (repeated files name source) (λ x. ready_iterate x rounds stable) p y h).1 more in
    inr (name, source, rounds, o, subst (λ (b : Bool). IsAsked words (to_iterate name source rounds o b)) e asked)
asks words files (to_plan name w n) p y asked h more = absurd (subst IsForMore (gave_made (loaded files name) (λ x. ready_plan x w n) p y h).1 more)
asks words files (to_certify name w n) p y asked h more = absurd (subst IsForMore (gave_made (loaded files name) (λ x. ready_cert x w n) p y h).1 more)
asks words files (to_tell_sets name) p y asked h more = absurd (subst IsForMore (gave_made (program_file files name) ready_sets p y h).1 more)
asks words files (to_check name other) p y asked h more = absurd (subst IsForMore (gave_made (accepted files name other) ready_check p y h).1 more)
asks words files (to_generate seed rows) p y asked h more = absurd (subst IsForMore h.1 more)
asks words files (to_drill seed rows o rewrites) p y asked h more = absurd (subst IsForMore h.1 more)

told_in : (words : List (List ℕ)) (files : Option (List NamedFile)) (p : List Reading) (texts : Texts) (text : List ℕ) → (work words files).Ends p (gives texts) → texts.told ≡ Some text → AskForMore words
told_in words files p texts text h told =
    let command_made = gave_then (command words) (texts_for files) p texts h in
    let made = gave_then (ready_for files command_made.value) (λ r. give (AreTextsOf r)) command_made.later texts command_made.next in
    asks words files command_made.value made.front made.value command_made.first.1 made.first (told_for made.value texts text made.next.1 told)

-- ---- answers

told_so : (words : List (List ℕ)) (before now : Feeding) (x : Result Texts Refusal) → (AreRefused words → IsUsageRefusal words x) → Answers (work words before.files) before now x → IsAnswerOrRefusal words before now x
told_so words before now (Ok texts) usage h = record { texts_are = h; told = λ text. told_in words before.files h.readings texts text h.ends }
told_so words before now (Err r) usage h = refused_so words before now r usage h

-- what the work results in is an answer
pub answered : {before now : Feeding} {Untouched : Type 0} (words : List (List ℕ)) (x : Result Texts Refusal) → (AreRefused words → IsUsageRefusal words x) → (AreRefused words → Untouched) → Comes (work words) before now x
    → IsAnswered words Untouched before now x
answered {before} {now} words x usage untouched h = record { told = told_so words before now x usage h.told; usage = usage; untouched = untouched }

-- ---- words for which no command was read

abbrev IsUsage : Result Command Refused → Type 0
IsUsage (Err refuseds.Usage) = Unit {0}
IsUsage read = ⊥

module _ (read : Result Command Refused) (refused : Refused) (feed : Feeding) (Untouched : Type 0) (is : read ≡ Err refused) (same : Untouched) where
  usage_answered : refused ≡ refuseds.Usage → AnswersWords read Untouched feed feed (Err Usage)
  usage_answered kind = record {
    answered = λ words r.
        let refuses : AreRefused words = subst (λ (x : Refused). AreAnswersTo words (Err x)) kind (subst (AreAnswersTo words) is r.answers) in
        answered words (Err Usage) (λ _. tt) (λ _. same) (comes_in_err (command words) texts_for feed (refl, (refuses, refl, refl)));
  }

  memory_answered : refused ≡ refuseds.OutOfMemory → AnswersWords read Untouched feed feed (Err OutOfMemory)
  memory_answered kind = record {
    answered = λ words r. record {
      told = tt;
      usage = λ _ none. subst (λ (x : Refused). IsUsage (Err x)) kind (subst IsUsage is (subst IsUsage (sym (r.unnamed none)) tt));
      untouched = λ _. same;
    };
  }

pub refused_answered : (read : Result Command Refused) (refused : Refused) (r : Refusal) (feed : Feeding) (Untouched : Type 0) → read ≡ Err refused → r ≡ refusal_of refused → Untouched
    → AnswersWords read Untouched feed feed (Err r)
refused_answered read refuseds.Usage r feed Untouched is e same =
    subst (λ (x : Refusal). AnswersWords read Untouched feed feed (Err x)) (sym e) (usage_answered read refuseds.Usage feed Untouched is same refl)
refused_answered read refuseds.OutOfMemory r feed Untouched is e same =
    subst (λ (x : Refusal). AnswersWords read Untouched feed feed (Err x)) (sym e) (memory_answered read refuseds.OutOfMemory feed Untouched is same refl)
