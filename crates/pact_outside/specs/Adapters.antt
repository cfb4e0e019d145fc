-- The adapters of real files and writers: the state after a call, for any answer of the system.
use Rattle.std.specs.Prelude.{ℕ, Bool, if◌then◌else◌, List, None, Result, is_ok}
use Rattle.pact_outside.specs.Memory.{next_count}
use Rattle.pact_outside.specs.Outside.{Feeding}

-- the count of faults after a call with that answer
abbrev pub faults_after : {T E : Type 0} → ℕ → Result T E → ℕ
faults_after faults result = if is_ok result then faults else next_count faults

pub record FileState : Type 0 where
  pub name : List ℕ
  pub is_open : Bool
  pub faults : ℕ

-- the contents of the system's files aren't modelled
abbrev pub shown_by_files : FileState → Feeding
shown_by_files feed = record { files = None; left = None; history = None; opened = feed.name; is_open = feed.is_open; faults = feed.faults }

-- a feed after a call on the file with that name: a failure is counted, and closes the file
abbrev pub after_call : {T E : Type 0} → FileState → List ℕ → Result T E → FileState
after_call feed name result = record { name = name; is_open = is_ok result; faults = faults_after feed.faults result }
