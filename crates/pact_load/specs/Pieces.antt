-- What reading the open file piece by piece results in.
use Rattle.std.specs.Prelude.{◌≡◌, ◌≤◌, ◌<◌, ◌+◌, ◌++◌, ℕ, Bool, true, false, List, [], length, take, drop, option_map, Option, Some, None, IfSome, Result, Ok, Err}
use Rattle.pact_outside.specs.Outside.{Feeding, Rose}
use Rattle.pact_load.specs.declared.files.Stop.{Stop}
use Rattle.pact_load.specs.declared.files.Stop.TheVariants.{Memory, Fault, Long}

-- the bytes after the first byte past the limit
abbrev pub behind : ℕ → Option (List ℕ) → Option (List ℕ)
behind limit left = option_map (drop (limit + 1)) left

-- no file was opened, the files are unchanged, and the count of faults doesn't fall
pub record ReadsOn (before now : Feeding) : Type 0 where
  pub later : before.faults ≤ now.faults
  pub files : now.files ≡ before.files
  pub named : now.opened ≡ before.opened
  pub noted : now.history ≡ before.history

-- A piece of what is left was read. It is empty exactly if nothing is left.
pub record AddsPiece (room : ℕ) (old new : Option (List ℕ)) (before after : List ℕ) (more : Bool) : Type 0 where
  pub piece : List ℕ
  pub added : after ≡ before ++ piece
  pub fits : length piece ≤ room
  pub told : IfSome old (λ all. (piece ≡ take (length piece) all) × (new ≡ Some (drop (length piece) all)) × (length piece ≤ length all) × (more ≡ false → all ≡ []))
  pub untold : old ≡ None → new ≡ None
  pub grows : more ≡ true → 0 < length piece
  pub none : more ≡ false → piece ≡ []

-- how reading a piece ended; if the feed failed, no file is open
abbrev pub PieceEnds : (room : ℕ) → (before now : Feeding) → (read grown : List ℕ) → Result Bool Stop → Type 0
PieceEnds room before now read grown (Ok more) = AddsPiece room before.left now.left read grown more × (now.is_open ≡ true)
PieceEnds room before now read grown (Err Memory) = Unit {0}
PieceEnds room before now read grown (Err Fault) = Rose before.faults now.faults × (now.is_open ≡ false)
PieceEnds room before now read grown (Err Long) = ⊥

-- a call that reads a piece
pub record ReadsPiece (room : ℕ) (before now : Feeding) (read grown : List ℕ) (result : Result Bool Stop) : Type 0 where
  pub on : ReadsOn before now
  pub ends : PieceEnds room before now read grown result

-- all that was left was read, within the limit
pub record IsRest (limit : ℕ) (before now : Feeding) (read : List ℕ) : Type 0 where
  pub bytes : IfSome before.left (λ all. read ≡ all)
  pub short : length read ≤ limit
  pub left : now.left ≡ behind limit before.left

-- more was left than the limit, and the reading stopped one byte past the limit
pub record IsLongRest (limit : ℕ) (before now : Feeding) : Type 0 where
  pub long : IfSome before.left (λ all. limit < length all)
  pub left : now.left ≡ behind limit before.left

-- how reading the rest ended
abbrev pub RestEnds : (limit : ℕ) → (before now : Feeding) → Result (List ℕ) Stop → Type 0
RestEnds limit before now (Ok read) = IsRest limit before now read
RestEnds limit before now (Err Memory) = Unit {0}
RestEnds limit before now (Err Fault) = Rose before.faults now.faults × (now.is_open ≡ false)
RestEnds limit before now (Err Long) = IsLongRest limit before now

-- a call that reads what is left of the open file
pub record ReadsRest (limit : ℕ) (before now : Feeding) (result : Result (List ℕ) Stop) : Type 0 where
  pub on : ReadsOn before now
  pub ends : RestEnds limit before now result
