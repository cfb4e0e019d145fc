-- What is wrong with a text: its first faulty line, and that line's first fault. A grammar is given by two things:
-- which texts are whole, and for each place of a text, which fault the words of a line have there.
use Rattle.std.specs.Prelude.{◌≡◌, ◌⊎◌, ◌↔◌, ℕ, ◌+◌, max, List, [], ◌∷◌, ◌++◌, length, Option, Some, None}
use Rattle.text_lines.specs.declared.faults.NotRead.{NotRead}
use Rattle.text_lines.specs.declared.faults.NotRead.TheVariants.{Fault, Memory}
use Rattle.text_lines.specs.declared.lines.TextFault.{TextFault}
use Rattle.text_lines.specs.declared.lines.TextFault.TheVariants.{At, Memory as NoMemory}
use Rattle.text_lines.specs.LineGrammar.{LineWord, HasLineFault}
use Rattle.text_lines.specs.TextLines.{HasWords, trimmed}

-- Some lines after these make a whole text.
abbrev pub IsStart : (List (List ℕ) → Type 0) → List (List ℕ) → Type 0
IsStart Whole front = (more : List (List ℕ)) × Whole (front ++ more)

-- The line has words, and `fault` finds nothing wrong with them.
abbrev pub IsFaultless : (List LineWord → Option ℕ) → List ℕ → Type 0
IsFaultless fault line = (words : List LineWord) × HasWords line words × (fault words ≡ None)

-- The line has no words, because of fault 1 or 2, or its words have the fault.
abbrev pub HasFault : (List LineWord → Option ℕ) → List ℕ → ℕ → Type 0
HasFault fault line what = HasLineFault what (trimmed line) ⊎ ((words : List LineWord) × HasWords line words × (fault words ≡ Some what))

-- After these lines a text can go on with exactly the lines that are faultless.
abbrev pub IsPlaceBehind : (List (List ℕ) → Type 0) → (List LineWord → Option ℕ) → List (List ℕ) → Type 0
IsPlaceBehind Whole fault front = (line : List ℕ) → IsStart Whole (front ++ line ∷ []) ↔ IsFaultless fault line

-- The lines before this one begin some whole text, and with it they no longer do. The reported fault is its fault at
-- its place. Lines count from 1.
pub record IsFaultyLine {Place : Type 0} (Whole : List (List ℕ) → Type 0) (fault : Place → List LineWord → Option ℕ) (text : List (List ℕ)) (number what : ℕ) : Type 0 where
  pub front : List (List ℕ)
  pub line : List ℕ
  pub later : List (List ℕ)
  pub place : Place
  pub lines : text ≡ front ++ line ∷ later
  pub numbered : number ≡ length front + 1
  pub begins : IsStart Whole front
  pub no_longer : ¬ IsStart Whole (front ++ line ∷ [])
  pub place_behind : IsPlaceBehind Whole (fault place) front
  pub told : HasFault (fault place) line what

-- The lines begin some whole text but aren't one. The fault is reported at the last line, or at line 1 if there is no
-- line.
pub record EndsEarly {Place : Type 0} (Whole : List (List ℕ) → Type 0) (fault : Place → List LineWord → Option ℕ) (missing : Place → Option ℕ) (text : List (List ℕ)) (number what : ℕ) : Type 0 where
  pub place : Place
  pub begins : IsStart Whole text
  pub not_whole : ¬ Whole text
  pub place_behind : IsPlaceBehind Whole (fault place) text
  pub told : missing place ≡ Some what
  pub numbered : number ≡ max 1 (length text)

abbrev pub IsFirstFault : {Place : Type 0} → (List (List ℕ) → Type 0) → (Place → List LineWord → Option ℕ) → (Place → Option ℕ) → List (List ℕ) → ℕ → ℕ → Type 0
IsFirstFault Whole fault missing text number what = IsFaultyLine Whole fault text number what ⊎ EndsEarly Whole fault missing text number what

-- ---- what a reader reports

-- for a line: its own fault; out of memory says nothing about the line
abbrev pub IsLineFault : (List LineWord → Option ℕ) → NotRead → List ℕ → Type 0
IsLineFault fault (Fault what) line = HasFault fault line what
IsLineFault fault Memory line = Unit {0}

abbrev pub told_at : ℕ → NotRead → TextFault
told_at number (Fault what) = At number what
told_at number Memory = NoMemory

-- for a text: its first fault; out of memory says nothing about the text
abbrev pub TellsFirst : {Place : Type 0} → (List (List ℕ) → Type 0) → (Place → List LineWord → Option ℕ) → (Place → Option ℕ) → TextFault → List (List ℕ) → Type 0
TellsFirst Whole fault missing (At number what) text = IsFirstFault Whole fault missing text number what
TellsFirst Whole fault missing NoMemory text = Unit {0}
