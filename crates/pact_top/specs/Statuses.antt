-- The full meaning of each exit status. Work.antt defines `work`, the order of work: which end the words and the files
-- lead to, and which files are read on the way.
-- The work `ComesTo` an end if it has that end after it reads some files, and the file opened last is the last of these.
-- If the feed shows a history, these files were opened in their order, with one opening for each reading and no other.
-- If file contents are modelled, what lies more than one byte beyond the last file's limit is left.
-- File contents, and the bytes that a sink took, are constrained only if they are modelled.
use Rattle.std.specs.Prelude.{◌⊎◌, ℕ, List, [], Option, Some, Result, Ok, Err, ◌≡◌}
use Rattle.pact_outside.specs.Outside.{Feeding, Rose}
use Rattle.pact_load.specs.Answers.{AreTold, ComesTo, HasFailed, refusal_line, status_of}
use Rattle.pact_load.specs.declared.refusals.Refusal.{Refusal}
use Rattle.pact_load.specs.RefusalLines.{line_of}
use Rattle.pact_load.specs.Stages.{CanEnd, gives, stops, misses}
use Rattle.pact_top.specs.Writing.{Gains, GainsMore, GainsFront, WritesLine, WritesLineAfter}
use Rattle.pact_top.specs.CommandTexts.{Ready}
use Rattle.pact_top.specs.Work.{ready, work}
use Rattle.pact_top.specs.declared.texts.Texts.{Texts}

-- Status 0: the text was written whole.
-- `run`: the sorted rows of a bag that the program as written allows. It is the only such bag if each function that a
-- Reduce or a CoGroup calls passes the order test. With `--counts` standard error took the counts of an evaluation of
-- the chosen plan that gives this bag.
-- `plan`: the chosen plan, what it costs, and the exchanges that lead to it.
-- `cert`: the certificate of these exchanges, which is accepted.
-- `sets`: what the analysis finds of each operator.
-- `check`: that the certificate is accepted. Legal exchanges lead to the plan that it states, and over every input that
-- plan allows the bags of the plan as written.
-- `gen`: the generated rows.
-- `drill`: the summary of the one bag that the drill's program allows on the generated rows.
-- `iterate`: the sorted rows of the last round's bag. With `--stable` standard error took the number of rounds.
abbrev pub AreWritten : List (List ℕ) → Feeding → Feeding → (old new told_old told_new : Option (List ℕ)) → Type 0
AreWritten words before now old new told_old told_new =
    (texts : Texts) × ComesTo (work words before.files) before now (gives texts) × Gains old new texts.out × GainsMore told_old told_new texts.told

-- if the files are modelled, and nothing keeps the work from making its texts
abbrev pub WhereReady : List (List ℕ) → Feeding → Type 0 → Type 0
WhereReady words before Fact = AreTold before.files → (r : Ready) → CanEnd (ready words before.files) (gives r) → Fact

-- Status 3: reading the file opened last failed, and the order of work opens that file there. No file is open
-- afterwards. Its name can be any that the command has, or any that a program can have.
abbrev pub CannotRead : List (List ℕ) → Feeding → Feeding → Type 0
CannotRead words before now = HasFailed (work words before.files) before now now.opened

-- if the files are modelled, and one that the work opens doesn't exist
abbrev pub WhereMissing : List (List ℕ) → Feeding → Type 0 → Type 0
WhereMissing words before Fact = AreTold before.files → (name : List ℕ) → CanEnd (work words before.files) (misses name) → Fact

-- Status 4, first case: a fault of the output occurred, and the output took a prefix of the text.
pub record IsTextCut (t : Texts) (old new told_old told_new : Option (List ℕ)) (first last told_first told_last : ℕ) : Type 0 where
  pub rose : Rose first last
  pub front : GainsFront old new t.out
  pub told : WritesLine told_old told_new told_first told_last (line_of 4 [])

-- Status 4, second case: the output took the whole text, and standard error failed after a prefix of its text.
pub record IsMoreCut (t : Texts) (old new told_old told_new : Option (List ℕ)) (told_first told_last : ℕ) : Type 0 where
  pub text : List ℕ
  pub is_told : t.told ≡ Some text
  pub whole : Gains old new t.out
  pub rose : Rose told_first told_last
  pub told : WritesLineAfter told_old told_new told_first told_last text (line_of 4 [])

-- What writing to standard error results in, if there is a text for it: 0, or 4 if the sink failed after a prefix of
-- it.
pub record TellsMore (more old new : Option (List ℕ)) (before now : ℕ) (answer : ℕ) : Type 0 where
  pub status : (answer ≡ 0) ⊎ (answer ≡ 4)
  pub whole : answer ≡ 0 → GainsMore old new more
  pub rose : answer ≡ 4 → Rose before now
  pub cut : answer ≡ 4 → (text : List ℕ) × (more ≡ Some text) × WritesLineAfter old new before now text (line_of 4 [])

-- what writing the text, and then the text for standard error, results in
pub record WritesTexts (t : Texts) (old new told_old told_new : Option (List ℕ)) (first last told_first told_last : ℕ) (answer : ℕ) : Type 0 where
  pub status : (answer ≡ 0) ⊎ (answer ≡ 4)
  pub whole : answer ≡ 0 → Gains old new t.out × GainsMore told_old told_new t.told
  pub cut : answer ≡ 4 → IsTextCut t old new told_old told_new first last told_first told_last ⊎ IsMoreCut t old new told_old told_new told_first told_last

-- what printing the reason for a missing text results in; the output is unchanged
pub record TellsRefusal (r : Refusal) (old new told_old told_new : Option (List ℕ)) (first last told_first told_last : ℕ) (answer : ℕ) : Type 0 where
  pub untouched : new ≡ old
  pub faultless : last ≡ first
  pub status : answer ≡ status_of r
  pub told : WritesLine told_old told_new told_first told_last (refusal_line r)

-- what the end of a call results in: the texts are written, or the reason for their absence is printed
abbrev pub WritesAnswer : Result Texts Refusal → (old new told_old told_new : Option (List ℕ)) → (first last told_first told_last : ℕ) → ℕ → Type 0
WritesAnswer (Ok texts) old new told_old told_new first last told_first told_last answer = WritesTexts texts old new told_old told_new first last told_first told_last answer
WritesAnswer (Err r) old new told_old told_new first last told_first told_last answer = TellsRefusal r old new told_old told_new first last told_first told_last answer

abbrev pub AreCut : List (List ℕ) → Feeding → Feeding → (old new told_old told_new : Option (List ℕ)) → (first last told_first told_last : ℕ) → Type 0
AreCut words before now old new told_old told_new first last told_first told_last =
    (texts : Texts) × ComesTo (work words before.files) before now (gives texts)
    × (IsTextCut texts old new told_old told_new first last told_first told_last ⊎ IsMoreCut texts old new told_old told_new told_first told_last)

-- Statuses 5 to 9: the order of work stops with this status and line, and the line is printed. RefusalLines.antt has
-- the lines.
abbrev pub IsStopped : List (List ℕ) → Feeding → Feeding → Option (List ℕ) → Option (List ℕ) → ℕ → ℕ → ℕ → Type 0
IsStopped words before now old new first last status = (line : List ℕ) × ComesTo (work words before.files) before now (stops status line) × WritesLine old new first last line

-- if the files are modelled, and the work can stop, a fact about the status that it stops with
abbrev pub WhereStopped : List (List ℕ) → Feeding → (ℕ → Type 0) → Type 0
WhereStopped words before Fact = AreTold before.files → (stop : ℕ) (line : List ℕ) → CanEnd (work words before.files) (stops stop line) → Fact stop

-- The lines of statuses 1 to 3. A sink that fails took a prefix of the line; the status is the same.
abbrev pub IsStatusReported : Feeding → Option (List ℕ) → Option (List ℕ) → ℕ → ℕ → ℕ → Type 0
IsStatusReported now old new first last status = WritesLine old new first last (line_of status now.opened)
