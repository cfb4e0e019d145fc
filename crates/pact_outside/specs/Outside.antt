-- What feeds and sinks do.
use Rattle.std.specs.Prelude.{◌≡◌, ◌≤◌, ◌<◌, ◌⊎◌, ◌-◌, ◌^◌, ℕ, Bool, true, false, List, [], ◌∷◌, ◌++◌, length, take, drop, Option, Some, None, Result, OnOk, OnErr, IfOk, IfSome, bytes_eq, cond, option_map}
use Rattle.pact_outside.specs.declared.files.NamedFile.{NamedFile}

-- a count has risen if it is greater; at its greatest value, at which it stays, it counts as risen
abbrev pub Rose : ℕ → ℕ → Type 0
Rose before now = (before < now) ⊎ (now ≡ 2 ^ 64 - 1)

-- a count never decreases, and if there is an error it has risen
pub record HasCause {T E : Type 0} (before now : ℕ) (result : Result T E) : Type 0 where
  pub later : before ≤ now
  pub failed : OnErr result (Rose before now)

-- the bytes of the first file with that name
abbrev pub file_named : List NamedFile → List ℕ → Option (List ℕ)
file_named [] name = None
file_named (f ∷ fs) name = cond (bytes_eq f.name name) (Some f.bytes) (file_named fs name)

-- ---- feeds

-- what a feed makes known about itself
pub record Feeding : Type 0 where
  -- the files, if their contents are known
  pub files : Option (List NamedFile)
  -- what is left of the open file, if the files are known
  pub left : Option (List ℕ)
  -- all names given to `open`, in order, if they are known
  pub history : Option (List (List ℕ))
  -- the last name given to `open`
  pub opened : List ℕ
  pub is_open : Bool
  -- how often a call failed; it stays at its greatest value
  pub faults : ℕ

-- a history with one more name
abbrev pub with_name : List ℕ → Option (List (List ℕ)) → Option (List (List ℕ))
with_name name history = option_map (λ names. names ++ name ∷ []) history

-- if the files are known, one has that name, and all of its bytes are left
abbrev pub Opens : Option (List NamedFile) → List ℕ → Option (List ℕ) → Type 0
Opens None name left = left ≡ None
Opens (Some files) name left = (bytes : List ℕ) × (file_named files name ≡ Some bytes) × (left ≡ Some bytes)

-- a read returns the next bytes that are left, and at least one if there are any
pub record Reads (room : ℕ) (old new : Option (List ℕ)) (count : ℕ) (buf : List ℕ) : Type 0 where
  pub fits : count ≤ room
  pub told : IfSome old (λ all. (take count buf ≡ take count all) × (new ≡ Some (drop count all)) × (count ≤ length all) × (count ≡ 0 → all ≡ []))
  pub untold : old ≡ None → new ≡ None

-- the state after an open
pub record AfterOpen {T E : Type 0} (old new : Feeding) (name : List ℕ) (result : Result T E) : Type 0 where
  pub named : new.opened ≡ name
  pub noted : new.history ≡ with_name name old.history
  pub files : new.files ≡ old.files
  pub opened : OnOk result (new.is_open ≡ true)
  pub current : OnOk result (Opens old.files name new.left)
  pub closed : OnErr result (new.is_open ≡ false)
  pub cause : HasCause old.faults new.faults result

-- the state after a read into a buffer of that length
pub record AfterRead {E : Type 0} (old new : Feeding) (room : ℕ) (buf : List ℕ) (result : Result ℕ E) : Type 0 where
  pub named : new.opened ≡ old.opened
  pub noted : new.history ≡ old.history
  pub files : new.files ≡ old.files
  pub stays : OnOk result (new.is_open ≡ true)
  pub bytes : IfOk result (λ count. Reads room old.left new.left count buf)
  pub closed : OnErr result (new.is_open ≡ false)
  pub cause : HasCause old.faults new.faults result

-- ---- sinks

-- a write takes a prefix of the piece, at least one byte
pub record Takes (old new : Option (List ℕ)) (piece : List ℕ) (count : ℕ) : Type 0 where
  pub some : 0 < count
  pub fits : count ≤ length piece
  pub told : IfSome old (λ all. new ≡ Some (all ++ take count piece))
  pub untold : old ≡ None → new ≡ None
