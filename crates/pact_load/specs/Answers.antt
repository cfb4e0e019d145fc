-- The status and the line of a refusal, and what a call's answer says about a stage.
use Rattle.std.specs.Prelude.{◌≡◌, ◌≤◌, ℕ, false, List, [], Option, Some, None, Result, Ok, Err}
use Rattle.pact_outside.specs.declared.files.NamedFile.{NamedFile}
use Rattle.pact_outside.specs.Outside.{Feeding, Rose}
use Rattle.program_check.specs.declared.checking.NotProgram.{NotProgram}
use Rattle.program_check.specs.declared.checking.NotProgram.TheVariants as nots
use Rattle.text_lines.specs.declared.lines.TextFault.{TextFault}
use Rattle.text_lines.specs.declared.lines.TextFault.TheVariants as faults
use Rattle.csv_source.specs.declared.reading.BadRow.{BadRow}
use Rattle.csv_source.specs.declared.reading.BadRow.TheVariants as bads
use Rattle.pact_load.specs.Readings.{HasOpened, HasRead}
use Rattle.pact_load.specs.Stages.{End, gives, stops, fails, Reading, Stage}
use Rattle.pact_load.specs.RefusalLines.{line_of, program_line, source_line, text_line, usage_line}
use Rattle.pact_load.specs.declared.refusals.Refusal.{Refusal}
use Rattle.pact_load.specs.declared.refusals.Refusal.TheVariants.{OutOfMemory, Usage, CannotRead, CannotWrite, Decided}

abbrev pub status_of : Refusal → ℕ
status_of OutOfMemory = 1
status_of Usage = 2
status_of (CannotRead name) = 3
status_of CannotWrite = 4
status_of (Decided status line) = status

abbrev pub refusal_line : Refusal → List ℕ
refusal_line OutOfMemory = line_of 1 []
refusal_line Usage = line_of 2 []
refusal_line (CannotRead name) = line_of 3 name
refusal_line CannotWrite = line_of 4 []
refusal_line (Decided status line) = line

-- out of memory, or this status and line
abbrev pub Says : ℕ → List ℕ → Refusal → Type 0
Says status line OutOfMemory = Unit {0}
Says status line (Decided s l) = (s ≡ status) × (l ≡ line)
Says status line refusal = ⊥

-- the refusal of a text that wasn't read, of a draft that isn't a program, and of bytes that have no rows
abbrev pub TextRefused : List ℕ → TextFault → Refusal → Type 0
TextRefused name (faults.At line what) r = Says 5 (text_line name line what) r
TextRefused name faults.Memory r = r ≡ OutOfMemory

abbrev pub ProgramRefused : NotProgram → Refusal → Type 0
ProgramRefused (nots.Bad code name) r = Says 6 (program_line name code) r
ProgramRefused nots.Memory r = r ≡ OutOfMemory

abbrev pub RowRefused : List ℕ → BadRow → Refusal → Type 0
RowRefused name (bads.At row column why) r = Says 7 (source_line name row column why) r
RowRefused name bads.Memory r = r ≡ OutOfMemory

-- ---- answers

-- the stage reads these files, and has this end
pub record ComesTo {A : Type 0} (stage : Stage A) (before now : Feeding) (end : End A) : Type 0 where
  pub readings : List Reading
  pub read : HasRead before now readings
  pub ends : stage.Ends readings end

-- Reading the last of these files failed: a fault occurred, and no file is open.
pub record HasFailed {A : Type 0} (stage : Stage A) (before now : Feeding) (name : List ℕ) : Type 0 where
  pub rose : Rose before.faults now.faults
  pub shut : now.is_open ≡ false
  pub named : now.opened ≡ name
  pub readings : List Reading
  pub opened : HasOpened before now readings
  pub ends : stage.Ends readings (fails name)

-- The stage gives the value that the call returns, or stops with the status and line that the call returns. The call
-- may also run out of memory, or fail to read a file.
abbrev pub Answers : {A : Type 0} → Stage A → Feeding → Feeding → Result A Refusal → Type 0
Answers stage before now (Ok value) = ComesTo stage before now (gives value)
Answers stage before now (Err OutOfMemory) = Unit {0}
Answers stage before now (Err Usage) = ComesTo stage before now (stops 2 usage_line)
Answers stage before now (Err (CannotRead name)) = HasFailed stage before now name
Answers stage before now (Err CannotWrite) = ⊥
Answers stage before now (Err (Decided status line)) = ComesTo stage before now (stops status line)

-- a call that does a stage's work over the files of a feed
pub record Comes {A : Type 0} (stage : Option (List NamedFile) → Stage A) (before now : Feeding) (result : Result A Refusal) : Type 0 where
  pub files : now.files ≡ before.files
  pub later : before.faults ≤ now.faults
  pub told : Answers (stage before.files) before now result

-- a call that does a stage's work and reads no file
abbrev pub Decides : {A : Type 0} → Stage A → Result A Refusal → Type 0
Decides stage (Ok value) = stage.Ends [] (gives value)
Decides stage (Err OutOfMemory) = Unit {0}
Decides stage (Err (Decided status line)) = stage.Ends [] (stops status line)
Decides stage (Err refusal) = ⊥

-- the feed's files are modelled
abbrev pub AreTold : Option (List NamedFile) → Type 0
AreTold None = ⊥
AreTold (Some files) = Unit {0}
