-- Reading a program line by line: the states that its lines lead to, and the results of its reader, for one
-- declaration, for a line and for the whole text.
use Rattle.std.specs.Prelude.{◌≡◌, ◌≤◌, ◌++◌, ℕ, List, ◌∷◌, map, length, Result, Ok, Err, codes, [], Bool, false, max, Some, bytes_eq}
use Rattle.pact_record.specs.declared.columns.Column.{Column}
use Rattle.tac_syntax.specs.declared.declarations.Decl.{Decl}
use Rattle.tac_syntax.specs.Declarations.{AreColumns, AreNumbers, IsKeyList, IsSpelledDecl}
use Rattle.tac_syntax.specs.Functions.{key_limit}
use Rattle.tac_syntax.specs.FieldRegisters.{has_registers}
use Rattle.tac_syntax.specs.Versions.{IsVersion}
use Rattle.text_lines.specs.declared.line_words.LineWord.{LineWord}
use Rattle.text_lines.specs.declared.line_words.LineWord.TheVariants.{Plain as plain_word}
use Rattle.text_lines.specs.LineReading.{Gives, IsFaultOf}
use Rattle.text_lines.specs.declared.faults.NotRead.{NotRead}
use Rattle.program_text.specs.DeclarationFaults.{columns_fault, key_pair_fault, numbers_fault, word_fault}
use Rattle.program_text.specs.DeclarationWords.{column_word, key_pair_words, number_words, words_of_decl}
use Rattle.tac_syntax.specs.declared.declarations.Decl.TheVariants.{Function as FunctionDecl}
use Rattle.tac_syntax.specs.Drafts.{DraftData}
use Rattle.tac_syntax.specs.declared.functions.Function.{Function}
use Rattle.tac_text.specs.FunctionStates.{OpenData, FunctionState, waiting, reading, whole, MayFollow, after}
use Rattle.tac_text.specs.FunctionLines.{FunctionLine, words_of_function_line}
use Rattle.tac_text.specs.Places.{FitsBuild, place_of}
use Rattle.text_lines.specs.Runs.{Runs}
use Rattle.program_text.specs.FirstLines.{version_words, field_count_words, IsFieldCount}
use Rattle.program_text.specs.ProgramTexts.{ProgramPlace, version_due, fields_due, between, in_function, IsProgramText, program_fault, program_missing}
use Rattle.text_lines.specs.declared.lines.TextFault.{TextFault}
use Rattle.text_lines.specs.FirstFaults.{TellsFirst}
use Rattle.program_text.specs.declared.program_reading.State.{State}
use Rattle.text_lines.specs.declared.lines.TextFault.TheVariants as told
use Rattle.program_text.specs.declared.program_reading.State.TheVariants as state

-- ---- parts

-- lists up to the line's end
abbrev pub ReadsColumns : ℕ → Result (List Column) NotRead → List LineWord → Type 0
ReadsColumns most (Ok columns) words = (words ≡ map column_word columns) × AreColumns most columns
ReadsColumns most (Err e) words = IsFaultOf e (columns_fault most words)

abbrev pub ReadsNumbers : ℕ → Result (List ℕ) NotRead → List LineWord → Type 0
ReadsNumbers limit (Ok numbers) words = (words ≡ number_words numbers) × (1 ≤ length numbers) × (length numbers ≤ limit) × AreNumbers numbers
ReadsNumbers limit (Err e) words = IsFaultOf e (numbers_fault limit words)

-- the left keys and `=`
abbrev pub ReadsLeftKeys : Result (List ℕ) NotRead → List LineWord → List LineWord → Type 0
ReadsLeftKeys (Ok keys) old now = (old ≡ number_words keys ++ plain_word (codes "=") ∷ now) × IsKeyList keys × (key_pair_fault old ≡ numbers_fault key_limit now)
ReadsLeftKeys (Err e) old now = IsFaultOf e (key_pair_fault old)

abbrev pub ReadsKeyPair : Result (List ℕ × List ℕ) NotRead → List LineWord → Type 0
ReadsKeyPair (Ok keys) words = (words ≡ key_pair_words keys.0 keys.1) × IsKeyList keys.0 × IsKeyList keys.1
ReadsKeyPair (Err e) words = IsFaultOf e (key_pair_fault words)

-- ---- one declaration

-- These words after this first word make this declaration, or their fault is reported.
abbrev pub ReadsDecl : ℕ → List ℕ → Result Decl NotRead → List LineWord → Type 0
ReadsDecl v first (Ok d) words = IsSpelledDecl v d × (plain_word first ∷ words ≡ words_of_decl d)
ReadsDecl v first (Err e) words = IsFaultOf e (word_fault v first words)

-- The result is this declaration, or out of memory.
abbrev pub GivesDecl : Result Decl NotRead → Decl → Type 0
GivesDecl r decl = Gives (λ found. found ≡ decl) r

-- what a line of a program says
pub data ProgramLine : Type 0 where
  version : (number : ℕ) → ProgramLine
  field_count : (count : ℕ) → ProgramLine
  declares : (decl : Decl) → ProgramLine
  of_function : (line : FunctionLine) → ProgramLine

abbrev pub words_of_program_line : ProgramLine → List LineWord
words_of_program_line (version number) = version_words number
words_of_program_line (field_count count) = field_count_words count
words_of_program_line (declares decl) = words_of_decl decl
words_of_program_line (of_function line) = words_of_function_line line

-- what was read: nothing yet, the version, a draft so far, or a draft and an open function
pub data ProgramState : Type 0 where
  nothing_read : ProgramState
  version_read : (version : ℕ) → ProgramState
  drafted : (draft : DraftData) → ProgramState
  open_function : (draft : DraftData) → (function : OpenData) → ProgramState

abbrev pub program_place : ProgramState → ProgramPlace
program_place nothing_read = version_due
program_place (version_read v) = fields_due v
program_place (drafted d) = between d.version
program_place (open_function d o) = in_function (place_of (has_registers d.version) o.build)

-- The version that was read is valid, and an open function's lines are of its version.
abbrev pub FitsVersion : ProgramState → Type 0
FitsVersion (version_read v) = IsVersion v
FitsVersion (open_function d o) = FitsBuild (has_registers d.version) o.build
FitsVersion state = Unit {0}

abbrev pub MaySay : ProgramState → ProgramLine → Type 0
MaySay nothing_read (version number) = IsVersion number
MaySay (version_read v) (field_count count) = IsFieldCount v count
MaySay (drafted d) (declares decl) = IsSpelledDecl d.version decl
MaySay (drafted d) (of_function line) = MayFollow (has_registers d.version) waiting line
MaySay (open_function d o) (of_function line) = MayFollow (has_registers d.version) (reading o) line
MaySay state line = ⊥

abbrev pub with_decl : DraftData → Decl → DraftData
with_decl d decl = record { version = d.version; fields = d.fields; functions = d.functions; decls = d.decls ++ decl ∷ [] }

abbrev pub with_function : DraftData → Function → DraftData
with_function d f = record { version = d.version; fields = d.fields; functions = d.functions ++ f ∷ []; decls = d.decls ++ FunctionDecl (length d.functions) ∷ [] }

-- the state that the lines of a function lead to, after a draft
abbrev pub in_program : DraftData → FunctionState → ProgramState
in_program d waiting = drafted d
in_program d (reading o) = open_function d o
in_program d (whole f) = drafted (with_function d f)

-- the state after a line; a line that isn't allowed leaves it as it is
abbrev pub said_on : ProgramState → ProgramLine → ProgramState
said_on nothing_read (version number) = version_read number
said_on (version_read v) (field_count count) = drafted (record { version = v; fields = count; functions = []; decls = [] })
said_on (drafted d) (declares decl) = drafted (with_decl d decl)
said_on (drafted d) (of_function line) = in_program d (after waiting line)
said_on (open_function d o) (of_function line) = in_program d (after (reading o) line)
said_on state line = state

-- lines of a text take the reader from one state to another
abbrev pub RunsTo : ProgramState → List (List ℕ) → ProgramState → Type 0
RunsTo s text t = Runs words_of_program_line MaySay said_on s text t

-- ---- results

-- the state that the reader holds
abbrev pub state_of : State → ProgramState
state_of state.NothingRead = nothing_read
state_of (state.VersionRead v) = version_read v
state_of (state.Drafted draft) = drafted draft
state_of (state.Open draft function) = open_function draft function

abbrev pub begins_function : List LineWord → Bool
begins_function (plain_word word ∷ words) = bytes_eq word (codes "function")
begins_function words = false

-- The words are those of an allowed line, which leads to this state.
abbrev pub LeadsOn : ProgramState → List LineWord → ProgramState → Type 0
LeadsOn s words t = (l : ProgramLine) × (words ≡ words_of_program_line l) × MaySay s l × (t ≡ said_on s l)

-- the result after the last of `lines` lines
abbrev pub EndsWith : ProgramState → ℕ → Result DraftData TextFault → Type 0
EndsWith s lines (Ok d) = s ≡ drafted d
EndsWith s lines (Err (told.At number what)) = (program_missing (program_place s) ≡ Some what) × (number ≡ max 1 lines)
EndsWith s lines (Err told.Memory) = ⊥

-- The result is this draft, or out of memory.
abbrev pub GivesDraft : Result DraftData TextFault → DraftData → Type 0
GivesDraft (Ok found) d = found ≡ d
GivesDraft (Err (told.At number what)) d = ⊥
GivesDraft (Err told.Memory) d = Unit {0}

-- the first fault of the text; out of memory says nothing about it
abbrev pub TellsFirstFault : TextFault → List (List ℕ) → Type 0
TellsFirstFault e text = TellsFirst IsProgramText program_fault program_missing e text
