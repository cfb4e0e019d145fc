-- What an explanation says of the work that `pact` does until a refusal is decided.
use Rattle.std.specs.Prelude.{◌≡◌, ◌⊎◌, ◌++◌, ◌&&◌, ◌||◌, ◌==◌, ℕ, Bool, true, not, nat_lt, List, [], ◌∷◌, Option, Some, None, codes, length}
use Rattle.pact_outside.specs.declared.files.NamedFile.{NamedFile}
use Rattle.pact_words.specs.Words.{Asked, to_run, to_plan, to_certify, to_tell_sets, to_check, to_generate, to_drill, to_iterate, AreRefused, IsAsked}
use Rattle.pact_load.specs.Answers.{refusal_line, status_of}
use Rattle.pact_load.specs.Loading.{file, loaded, program_file, program_limit, program_of}
use Rattle.pact_load.specs.Readings.{Holds}
use Rattle.pact_load.specs.RefusalLines.{text_line, usage_line}
use Rattle.pact_load.specs.Stages.{CanEnd, Stage, and_then, fails, gives, stops}
use Rattle.pact_load.specs.declared.refusals.Refusal.{Refusal}
use Rattle.pact_load.specs.declared.refusals.Refusal.TheVariants.{OutOfMemory, Usage, CannotRead, CannotWrite, Decided}
use Rattle.text_marks.specs.Expecting.{LeavesNoneOut}
use Rattle.text_marks.specs.Marks.{AreExpected, HasFirst, IsFaultMark}
use Rattle.text_marks.specs.declared.marks.Mark.{Mark}
use Rattle.text_marks.specs.declared.trials.Fault.{Fault}
use Rattle.explain_report.specs.Printing.{IsPrinted}
use Rattle.explain_report.specs.TextStages.{checked_of, loaded_of, repeated_of, with_certificate, with_source}
use Rattle.explain_report.specs.declared.explanations.Explanation.{Explanation}
use Rattle.explain_report.specs.declared.explanations.Spot.{Spot}
use Rattle.explain_report.specs.declared.loading.Work.{Work}
use Rattle.explain_report.specs.declared.loading.Work.TheVariants as works

-- ---- refusals

-- the status is the refusal's, and the text begins with the line that `pact` prints for it
abbrev pub Tells : Refusal → Explanation → Type 0
Tells r e = (e.status ≡ status_of r) × (rest : List ℕ) × (e.text ≡ refusal_line r ++ rest)

-- the stage can end with this refusal; out of memory is no such end
abbrev pub CanStop : {A : Type 0} → Stage A → Refusal → Type 0
CanStop stage OutOfMemory = ⊥
CanStop stage Usage = CanEnd stage (stops 2 usage_line)
CanStop stage (CannotRead name) = CanEnd stage (fails name)
CanStop stage CannotWrite = ⊥
CanStop stage (Decided status line) = CanEnd stage (stops status line)

-- The status is 0, and the stage can give a value; or the explanation is of a refusal that the stage can end with.
abbrev pub Foretells : {A : Type 0} → Stage A → Explanation → Type 0
Foretells {A} stage e = ((e.status ≡ 0) × (value : A) × CanEnd stage (gives value)) ⊎ ((r : Refusal) × CanStop stage r × Tells r e)

-- ---- faults of a program's text

-- Whether what may be there is listed: not where a byte or a literal is at fault, or a line is missing at the text's end.
abbrev pub lists_words : ℕ → List ℕ → Mark → Bool
lists_words what text mark = not ((what == 1) || ((what == 2) || (what == 10))) && (not (what == 12) || nat_lt mark.from (length text))

-- The marked part has the fault, and each item that is listed may be there instead. Where items are listed, none is
-- left out.
pub record IsSpot (text : List ℕ) (fault : Fault) (s : Spot) : Type 0 where
  pub mark : IsFaultMark text fault s.mark
  pub expected : AreExpected s.mark.from s.mark.to text s.expected
  pub whole : lists_words fault.what text s.mark ≡ true → LeavesNoneOut s.mark.from s.mark.to text s.expected

-- The explanation is of this fault of the text: its text has the fault's line, and below it the place of a part that
-- has the fault, and what may be there instead.
pub record IsFaultExplained (name text : List ℕ) (fault : Fault) (e : Explanation) : Type 0 where
  pub status : e.status ≡ 5
  pub spot : Spot
  pub below : List ℕ
  pub begins : e.text ≡ text_line name fault.line fault.what ++ below
  pub printed : IsPrinted name text spot below
  pub shown : e.spot ≡ Some spot
  pub right : IsSpot text fault spot

-- what is marked in a text: its first fault, or nothing if it has none
abbrev pub MarksText : (name text : List ℕ) → Option Fault → Explanation → Type 0
MarksText name text (Some fault) e = IsFaultExplained name text fault e
MarksText name text None e = e.spot ≡ None

-- What is marked in a file: the first fault of its text; or nothing, if that can't be read.
abbrev pub MarksFile : Option (List NamedFile) → List ℕ → Explanation → Type 0
MarksFile files name e =
    ((text : List ℕ) × (fault : Option Fault) × Holds files name text × HasFirst text fault × MarksText name text fault e)
    ⊎ ((e.spot ≡ None) × (r : Refusal) × CanStop (file files name program_limit) r × Tells r e)

-- ---- what a command does with its program's file

-- what is read after the program
pub data Reads : Type 0 where
  -- nothing
  no_more : Reads
  -- the sources
  its_sources : Reads
  -- the sources, if one of them has this name
  with_source_named : List ℕ → Reads
  -- the certificate in this file
  certificate_in : List ℕ → Reads

abbrev pub reads_of : Work → Reads
reads_of works.Sets = no_more
reads_of works.Run = its_sources
reads_of (works.Repeat source) = with_source_named source.now
reads_of (works.Check other) = certificate_in other.now

abbrev pub ForetellsText : Option (List NamedFile) → (name text : List ℕ) → Reads → Explanation → Type 0
ForetellsText files name text no_more e = Foretells (program_of name text) e
ForetellsText files name text its_sources e = Foretells (loaded_of files name text) e
ForetellsText files name text (with_source_named source) e = Foretells (repeated_of files name source text) e
ForetellsText files name text (certificate_in other) e = Foretells (checked_of files name other text) e

-- what is said of a text: what the command comes to, and which fault is marked
pub record ExplainsText (files : Option (List NamedFile)) (name text : List ℕ) (reads : Reads) (e : Explanation) : Type 0 where
  pub foretold : ForetellsText files name text reads e
  pub first : Option Fault
  pub has_first : HasFirst text first
  pub marked : MarksText name text first e

-- By `program_file` and `loaded`, `pact` answers.
abbrev pub ForetellsFile : Option (List NamedFile) → List ℕ → Reads → Explanation → Type 0
ForetellsFile files name no_more e = Foretells (program_file files name) e
ForetellsFile files name its_sources e = Foretells (loaded files name) e
ForetellsFile files name (with_source_named source) e = Foretells (and_then (program_file files name) (with_source files source)) e
ForetellsFile files name (certificate_in other) e = Foretells (and_then (program_file files name) (with_certificate files other)) e

pub record ExplainsFile (files : Option (List NamedFile)) (name : List ℕ) (reads : Reads) (e : Explanation) : Type 0 where
  pub foretold : ForetellsFile files name reads e
  pub marked : MarksFile files name e

-- ---- commands

-- The explanation of a command is of what its files decide. `gen` and `drill` read no file.
abbrev pub ExplainsCommand : Option (List NamedFile) → Asked → Explanation → Type 0
ExplainsCommand files (to_run name options rewrites counts) e = ExplainsFile files name its_sources e
ExplainsCommand files (to_plan name workers plans) e = ExplainsFile files name its_sources e
ExplainsCommand files (to_certify name workers plans) e = ExplainsFile files name its_sources e
ExplainsCommand files (to_tell_sets name) e = ExplainsFile files name no_more e
ExplainsCommand files (to_check name certificate) e = ExplainsFile files name (certificate_in certificate) e
ExplainsCommand files (to_generate seed rows) e = e.status ≡ 0
ExplainsCommand files (to_drill seed rows options rewrites) e = e.status ≡ 0
ExplainsCommand files (to_iterate name source rounds options stable) e = ExplainsFile files name (with_source_named source) e

-- the words are refused, and the explanation is of that; or they ask for a command, and it is of that command's files
abbrev pub Explains : List (List ℕ) → Option (List NamedFile) → Explanation → Type 0
Explains words files e = (AreRefused words × Tells Usage e) ⊎ ((command : Asked) × IsAsked words command × ExplainsCommand files command e)

-- The words are about the explainer itself: none, or the first one is one of its own three.
abbrev pub AreOwn : List (List ℕ) → Type 0
AreOwn [] = Unit {0}
AreOwn (first ∷ words) = (first ≡ codes "--help") ⊎ ((first ≡ codes "--faults") ⊎ (first ≡ codes "--line"))

-- The words are about the explainer itself, and the status is 0; or they are those of a command, which is explained.
abbrev pub ExplainsAny : List (List ℕ) → Option (List NamedFile) → Explanation → Type 0
ExplainsAny words files e = (AreOwn words × (e.status ≡ 0)) ⊎ Explains words files e

-- the status and the text of such an explanation
abbrev pub IsTextOfAny : List (List ℕ) → Option (List NamedFile) → ℕ × List ℕ → Type 0
IsTextOfAny words files told = (e : Explanation) × ExplainsAny words files e × (told.0 ≡ e.status) × (told.1 ≡ e.text)
