-- What reading files leaves of a feed.
use Rattle.std.specs.Prelude.{◌≡◌, ◌≤◌, ◌<◌, ℕ, false, List, [], ◌∷◌, length, Option, Some, None, Result, Ok, Err}
use Rattle.std.specs.Option.{option_and_then}
use Rattle.pact_outside.specs.declared.files.NamedFile.{NamedFile}
use Rattle.pact_outside.specs.Outside.{Feeding, Rose, file_named, with_name}
use Rattle.pact_load.specs.declared.files.Stop.{Stop}
use Rattle.pact_load.specs.declared.files.Stop.TheVariants.{Memory, Fault, Long}
use Rattle.pact_load.specs.Stages.{Reading}
use Rattle.pact_load.specs.Pieces.{behind}

-- the name opened last, after these readings
abbrev pub opened_last : List ℕ → List Reading → List ℕ
opened_last name [] = name
opened_last name (r ∷ readings) = opened_last r.name readings

-- all names opened
abbrev pub opened_all : Option (List (List ℕ)) → List Reading → Option (List (List ℕ))
opened_all history [] = history
opened_all history (r ∷ readings) = opened_all (with_name r.name history) readings

-- what is left of the file opened last: the bytes after the first byte past its limit
abbrev pub left_behind : Option (List NamedFile) → Option (List ℕ) → List Reading → Option (List ℕ)
left_behind files left [] = left
left_behind files left (r ∷ readings) = left_behind files (option_and_then (λ held. behind r.limit (file_named held r.name)) files) readings

-- the files of these names were opened in turn, one opening for each reading, and no other
pub record HasOpened (before now : Feeding) (readings : List Reading) : Type 0 where
  pub last : now.opened ≡ opened_last before.opened readings
  pub all : now.history ≡ opened_all before.history readings

-- these files were opened in turn, and then read
pub record HasRead (before now : Feeding) (readings : List Reading) : Type 0 where
  pub opened : HasOpened before now readings
  pub left : now.left ≡ left_behind before.files before.left readings

-- ---- one file

-- A file of that name holds these bytes. If the files aren't modelled, it may hold any bytes.
abbrev pub Holds : Option (List NamedFile) → List ℕ → List ℕ → Type 0
Holds None name bytes = Unit {0}
Holds (Some files) name bytes = file_named files name ≡ Some bytes

-- there is no file of that name
abbrev pub Lacks : Option (List NamedFile) → List ℕ → Type 0
Lacks None name = ⊥
Lacks (Some files) name = file_named files name ≡ None

abbrev pub only : List ℕ → ℕ → List Reading
only name limit = record { name = name; limit = limit } ∷ []

-- a file was read whole, within its limit
pub record IsWhole (name : List ℕ) (limit : ℕ) (before now : Feeding) (bytes : List ℕ) : Type 0 where
  pub read : HasRead before now (only name limit)
  pub held : Holds before.files name bytes
  pub short : length bytes ≤ limit

-- The file is longer than its limit, and was read to one byte past that limit.
pub record IsLong (name : List ℕ) (limit : ℕ) (before now : Feeding) : Type 0 where
  pub read : HasRead before now (only name limit)
  pub bytes : List ℕ
  pub held : Holds before.files name bytes
  pub long : limit < length bytes

-- the file was opened, and a fault occurred then or while it was read
pub record IsBroken (name : List ℕ) (limit : ℕ) (before now : Feeding) : Type 0 where
  pub opened : HasOpened before now (only name limit)
  pub rose : Rose before.faults now.faults
  pub shut : now.is_open ≡ false

-- how reading a named file ended
abbrev pub ReadingEnds : List ℕ → (limit : ℕ) → (before now : Feeding) → Result (List ℕ) Stop → Type 0
ReadingEnds name limit before now (Ok bytes) = IsWhole name limit before now bytes
ReadingEnds name limit before now (Err Memory) = Unit {0}
ReadingEnds name limit before now (Err Fault) = IsBroken name limit before now
ReadingEnds name limit before now (Err Long) = IsLong name limit before now

-- a call that opens a file and reads it whole
pub record ReadsFile (name : List ℕ) (limit : ℕ) (before now : Feeding) (result : Result (List ℕ) Stop) : Type 0 where
  pub files : now.files ≡ before.files
  pub later : before.faults ≤ now.faults
  pub ends : ReadingEnds name limit before now result
